-- The turns of a cut.
use Rattle.std.proofs.Common.{◌≡◌, ◌⊎◌, ℕ, suc, ◌+◌, ◌^◌, ◌-◌, ◌<◌, ◌≤◌, Bool, true, false, ◌||◌, ◌&&◌, cond, Option, Some, None, List, [], ◌∷◌, ◌++◌, length, slice_get, inl, inr, refl, sym, ◌∙◌, ap, subst, arith}
use Rattle.std.proofs.lemmas.Bool.{and_from, and_parts, cases_Bool, cond-true, eqb-true, eq-eqb, false≢true, le-leb, or_right}
use Rattle.std.proofs.lemmas.Bool.Decides.{nat_tests}
use Rattle.std.proofs.lemmas.List.Elements.{All-append, All-cons, All-head, All-nil, All-tail, All-weaker}
use Rattle.std.proofs.lemmas.List.Folds.{list_any-append}
use Rattle.std.proofs.lemmas.List.Sums.{sum_by-cons}
use Rattle.std.proofs.lemmas.Option.{none-some, same_Some, slice_get_within}
use Rattle.std.specs.List.{count_by, list_any}
use Rattle.std.specs.Prelude.{nat_eq, nat_le, slice_index, All, IfSome}
use Rattle.fws_iv.specs.declared.iv.Iv.{Iv}
use Rattle.fws_iv.specs.Ivs.{has}
use Rattle.fws_net.specs.declared.packet.Packet.{Packet}
use Rattle.fws_net.specs.Fates.{has_ports}
use Rattle.fws_tree.specs.declared.node.Kid.{Kid}
use Rattle.fws_tree.specs.declared.node.Node.TheVariants.{Cut}
use Rattle.fws_tree.specs.Plain.{leaf}
use Rattle.fws_tree_seen.specs.Cuts.{IsCutNode}
use Rattle.fws_ios_put_entries.specs.declared.path.Path.{Path}
use Rattle.fws_ios_put_entries.specs.declared.side.Side.{Side}
use Rattle.fws_ios_put_entries.specs.declared.side.Side.TheVariants.{Proto, Dst, Dport, Src, Sport, Icmp}
use Rattle.fws_ios_put_entries.specs.Narrowing.{AreNarrowed, AsksNoDetail, HasAddresses}
use Rattle.fws_ios_put_entries.specs.Paths.{hits, number_of, path_has, some_path_has}
use Rattle.fws_ios_put_entries.specs.Seen.{IsSeenAt, LookSame}
use Rattle.fws_ios_put_lists.specs.declared.turn.Turn.{Turn}
use Rattle.fws_ios_put_lists.specs.Blocks.{below, Comes, IsGoodPath, IsPathTo, IsPlanned, IsPoint, Scene}
use Rattle.fws_ios_put_lists.specs.Turns.{some_turn_has, turns_to, AreKidTests, AreTests, AreTurns, IsGoodTurn, IsKidNode, IsTest, Leads}
use Rattle.fws_ios_put_lists.proofs.Coming.{come_any, come_hit, come_leaf, IsUntold}
use Rattle.fws_ios_put_lists.proofs.Laws.{NodeLaws}
use Rattle.fws_ios_put_lists.proofs.Points.{kid_before, kid_cuts, within_top}

-- ---- the tests of a kid

-- the paths on which packets go to a kid
pub record ArePaths (side : Side) (set : List Iv) (path : Path) (paths : List Path) : Type 0 where
  pub same : (p : Packet) → HasAddresses p → some_path_has paths p ≡ (path_has path p && hits side set p)
  pub good : All (IsGoodPath (suc (number_of side))) paths

tests_by : (side : Side) (kid : Kid) (path : Path) (falls : Option Bool) (paths : List Path)
    → ((p : Packet) → HasAddresses p → some_path_has paths p ≡ true → (path_has path p ≡ true) × (hits side kid.set p ≡ true))
    → All (IsGoodPath (suc (number_of side))) paths → All (IsTest side kid path falls) (turns_to kid.node falls paths)
tests_by side kid path falls [] on good = All-nil (IsTest side kid path falls)
tests_by side kid path falls (x ∷ paths) on good =
    All-cons (IsTest side kid path falls) (record { path = x; node = kid.node; falls = falls }) (turns_to kid.node falls paths)
    (record {
      node = refl;
      good = All-head (IsGoodPath (suc (number_of side))) x paths good;
      falls_is = refl;
      on = λ p fine h. on p fine (ap (λ b. b || some_path_has paths p) h);
    })
    (tests_by side kid path falls paths (λ p fine h. on p fine (or_right (path_has x p) (some_path_has paths p) h)) (All-tail (IsGoodPath (suc (number_of side))) x paths good))

turns_have : (node : ℕ) (falls : Option Bool) (paths : List Path) (p : Packet) → some_turn_has (turns_to node falls paths) p ≡ some_path_has paths p
turns_have node falls [] p = refl
turns_have node falls (x ∷ paths) p = ap (λ b. path_has x p || b) (turns_have node falls paths p)

-- the paths of a set ask nothing of later fields
pub narrowed_good : (side : Side) (set : List Iv) (path : Path) (paths : List Path) → IsGoodPath (number_of side) path → AreNarrowed path side set paths → All (IsGoodPath (suc (number_of side))) paths
narrowed_good side set path paths good h = λ k d lt. record {
  writable = h.writable k d lt;
  free = λ other le. h.free other (good.free other (omega (arith, le))) (differ (number_of other) (number_of side) le) (late (number_of other) (number_of side) (some side) le) k d lt;
}
  where
    differ : (a b : ℕ) → suc b ≤ a → nat_eq a b ≡ false
    differ a b le = grind (arith, nat_tests)

    late : (a b : ℕ) → 1 ≤ b → suc b ≤ a → nat_eq a 1 ≡ false
    late a b lo le = grind (arith, nat_tests)

    some : (side : Side) → 1 ≤ number_of side
    some Proto = omega arith
    some Dst = omega arith
    some Dport = omega arith
    some Src = omega arith
    some Sport = omega arith
    some Icmp = omega arith

pub kid_tests : (side : Side) (kid : Kid) (path : Path) (last : ℕ) (falls : Option Bool) (paths : List Path) → IsGoodPath (number_of side) path → AreNarrowed path side kid.set paths
    → AreKidTests side kid path last falls (turns_to kid.node falls paths)
kid_tests side kid path last falls paths good h = record {
  each = tests_by side kid path falls paths (λ p fine e. and_parts (path_has path p) (hits side kid.set p) (sym (h.same p fine) ∙ e)) (narrowed_good side kid.set path paths good h);
  all = inr (λ p fine on hit. turns_have kid.node falls paths p ∙ h.same p fine ∙ and_from (path_has path p) (hits side kid.set p) on hit);
}

pub kid_left : (side : Side) (kid : Kid) (path : Path) (last : ℕ) (falls : Option Bool) → last ≡ kid.node → AreKidTests side kid path last falls []
kid_left side kid path last falls left = record { each = All-nil (IsTest side kid path falls); all = inl left }

-- what the narrowing of a path wants
pub good_detail : (path : Path) → IsGoodPath 1 path → AsksNoDetail path
good_detail path good = record {
  sport = good.free Sport (omega arith);
  dport = good.free Dport (omega arith);
  icmp = good.free Icmp (omega arith);
}

-- ---- the tests of kids

abbrev IsKidTest : Side → List Kid → Path → Option Bool → Turn → Type 0
IsKidTest side kids path falls turn = (i : ℕ) × (kid : Kid) × (slice_get kids i ≡ Some kid) × IsTest side kid path falls turn

pub no_tests : (side : Side) (kids : List Kid) (path : Path) (last : ℕ) (falls : Option Bool) → AreTests side kids path last falls 0 []
no_tests side kids path last falls = record { each = All-nil (IsKidTest side kids path falls); all = λ i kid lt. absurd (omega (arith, lt)) }

some_left : (a b : List Turn) (p : Packet) → some_turn_has a p ≡ true → some_turn_has (a ++ b) p ≡ true
some_left a b p e = list_any-append (λ (t : Turn). path_has t.path p) a b ∙ ap (λ c. c || some_turn_has b p) e

some_right : (a b : List Turn) (p : Packet) → some_turn_has b p ≡ true → some_turn_has (a ++ b) p ≡ true
some_right a b p e = list_any-append (λ (t : Turn). path_has t.path p) a b ∙ or_right (some_turn_has a p) (some_turn_has b p) e

pub tests_more : (side : Side) (kids : List Kid) (path : Path) (last : ℕ) (falls : Option Bool) (n : ℕ) (kid : Kid) (turns further : List Turn) → slice_get kids n ≡ Some kid
    → AreTests side kids path last falls n turns → AreKidTests side kid path last falls further → AreTests side kids path last falls (n + 1) (turns ++ further)
tests_more side kids path last falls n kid turns further there h g = record {
  each = All-append (IsKidTest side kids path falls) turns further h.each
      (All-weaker (IsTest side kid path falls) (IsKidTest side kids path falls) (λ turn test. (n, kid, there, test)) further g.each);
  all = λ i k lt at. elim (cases_Bool (nat_eq i n)) [
    | inl y ↦ (let same : i ≡ n = eqb-true i n y in
        let is : kid ≡ k = same_Some kid k (sym there ∙ ap (slice_get kids) (sym same) ∙ at) in
        elim g.all [
          | inl left ↦ inl (subst (λ (x : Kid). last ≡ x.node) is left)
          | inr f ↦ inr (λ p fine on hit. some_right turns further p (f p fine on (subst (λ (x : Kid). hits side x.set p ≡ true) (sym is) hit)))
        ])
    | inr z ↦ elim (h.all i k (earlier i n lt z) at) [
      | inl left ↦ inl left
      | inr f ↦ inr (λ p fine on hit. some_left turns further p (f p fine on hit))
    ]
  ];
}
  where
    earlier : (i n : ℕ) → i < n + 1 → nat_eq i n ≡ false → i < n
    earlier i n lt ne = grind (arith, nat_tests)

-- ---- fields of points

-- the packet's addresses are those of a point
pub point_addresses : (s : Scene) (p : Packet) (x : List ℕ) → IsPlanned s → IsPoint s p x → HasAddresses p
point_addresses s p x planned point =
    let size : length s.tops ≡ 12 = ap length planned.tops_are in
    let low : (f : ℕ) → f < length s.tops → slice_index x f ≤ slice_index s.tops f = λ f lt. within_top s.tops x f point.within lt in
    record {
      src = less (slice_index x 4) p.src point.seen.src (subst (λ l. slice_index x 4 ≤ slice_index l 4) planned.tops_are (low 4 (omega (arith, size))));
      dst = less (slice_index x 2) p.dst point.seen.dst (subst (λ l. slice_index x 2 ≤ slice_index l 2) planned.tops_are (low 2 (omega (arith, size))));
    }
  where
    less : (a b : ℕ) → a ≡ b → a ≤ 2 ^ 32 - 1 → b < 2 ^ 32
    less a b e le = omega (arith, e, le)

-- what a packet hits is told at its point
pub record IsTold (side : Side) (set : List Iv) (x : List ℕ) : Type 0 where
  pub has_it : has set (slice_index x (number_of side)) ≡ true
  pub same : (y : List ℕ) → LookSame x y → slice_index x (number_of side) ≡ slice_index y (number_of side)

hit_told : (side : Side) (set : List Iv) (p : Packet) (x : List ℕ) → IsSeenAt p x → hits side set p ≡ true → IsTold side set x
hit_told Proto set p x seen h = record { has_it = ap (has set) seen.proto ∙ h; same = λ y look. look.proto }
hit_told Dst set p x seen h = record { has_it = ap (has set) seen.dst ∙ h; same = λ y look. look.dst }
hit_told Src set p x seen h = record { has_it = ap (has set) seen.src ∙ h; same = λ y look. look.src }
hit_told Dport set p x seen h =
    let both = and_parts (has_ports p.proto) (has set p.dport) h in record { has_it = ap (has set) seen.dport ∙ both.1; same = λ y look. look.dport (ap has_ports seen.proto ∙ both.0) }
hit_told Sport set p x seen h =
    let both = and_parts (has_ports p.proto) (has set p.sport) h in record { has_it = ap (has set) seen.sport ∙ both.1; same = λ y look. look.sport (ap has_ports seen.proto ∙ both.0) }
hit_told Icmp set p x seen h =
    let both = and_parts (nat_eq p.proto 1) (has set p.icmp) h in record { has_it = ap (has set) seen.icmp ∙ both.1; same = λ y look. look.icmp (seen.proto ∙ eqb-true p.proto 1 both.0) }

-- a field for which lists don't ask doesn't tell
pub other_untold : (x : List ℕ) (f : ℕ) → (f ≡ 0) ⊎ (f ≡ 6) ⊎ (8 ≤ f) → IsUntold x f
other_untold x f h = record {
  proto = λ e. by 1 f e h (λ z. omega (arith, z)) (λ z. omega (arith, z)) (λ z. omega (arith, z));
  dst = λ e. by 2 f e h (λ z. omega (arith, z)) (λ z. omega (arith, z)) (λ z. omega (arith, z));
  src = λ e. by 4 f e h (λ z. omega (arith, z)) (λ z. omega (arith, z)) (λ z. omega (arith, z));
  dport = λ has' e. by 3 f e h (λ z. omega (arith, z)) (λ z. omega (arith, z)) (λ z. omega (arith, z));
  sport = λ has' e. by 5 f e h (λ z. omega (arith, z)) (λ z. omega (arith, z)) (λ z. omega (arith, z));
  icmp = λ is e. by 7 f e h (λ z. omega (arith, z)) (λ z. omega (arith, z)) (λ z. omega (arith, z));
}
  where
    by : (n f : ℕ) → n ≡ f → (f ≡ 0) ⊎ (f ≡ 6) ⊎ (8 ≤ f) → (n ≡ 0 → ⊥) → (n ≡ 6 → ⊥) → (8 ≤ n → ⊥) → ⊥
    by n f e (inl a) x y z = x (e ∙ a)
    by n f e (inr (inl a)) x y z = y (e ∙ a)
    by n f e (inr (inr a)) x y z = z (omega (arith, e, a))

-- a port doesn't tell where the protocol has none, nor a type where it isn't ICMP
port_untold : (x : List ℕ) (f : ℕ) → (f ≡ 3) ⊎ (f ≡ 5) → has_ports (slice_index x 1) ≡ false → IsUntold x f
port_untold x f which lacks = record {
  proto = λ e. elim which [ inl a ↦ (let z : 1 ≡ 3 = e ∙ a in omega (arith, z)) | inr a ↦ (let z : 1 ≡ 5 = e ∙ a in omega (arith, z)) ];
  dst = λ e. elim which [ inl a ↦ (let z : 2 ≡ 3 = e ∙ a in omega (arith, z)) | inr a ↦ (let z : 2 ≡ 5 = e ∙ a in omega (arith, z)) ];
  src = λ e. elim which [ inl a ↦ (let z : 4 ≡ 3 = e ∙ a in omega (arith, z)) | inr a ↦ (let z : 4 ≡ 5 = e ∙ a in omega (arith, z)) ];
  dport = λ has' e. false≢true (sym lacks ∙ has');
  sport = λ has' e. false≢true (sym lacks ∙ has');
  icmp = λ is e. elim which [ inl a ↦ (let z : 7 ≡ 3 = e ∙ a in omega (arith, z)) | inr a ↦ (let z : 7 ≡ 5 = e ∙ a in omega (arith, z)) ];
}

type_untold : (x : List ℕ) → (slice_index x 1 ≡ 1 → ⊥) → IsUntold x 7
type_untold x lacks = record {
  proto = λ e. omega (arith, e);
  dst = λ e. omega (arith, e);
  src = λ e. omega (arith, e);
  dport = λ has' e. omega (arith, e);
  sport = λ has' e. omega (arith, e);
  icmp = λ is e. lacks is;
}

-- ---- where packets go at a cut

-- a kid whose set a packet hits
record IsHitKid (side : Side) (kids : List Kid) (p : Packet) : Type 0 where
  pub place : ℕ
  pub kid : Kid
  pub there : slice_get kids place ≡ Some kid
  pub hit : hits side kid.set p ≡ true

-- what is counted once is there
count_any : {X : Type 0} (p : X → Bool) (xs : List X) (b : Bool) → count_by p xs ≡ cond b 1 0 → list_any p xs ≡ b
count_any p [] true e = absurd (omega (arith, e))
count_any p [] false e = refl
count_any p (x ∷ xs) b e =
    let s = sum_by-cons (λ x. cond (p x) 1 0) x xs in
    elim (cases_Bool (p x)) [
      | inl y ↦ (let n : 1 + count_by p xs ≡ cond b 1 0 = ap (λ k. k + count_by p xs) (sym (ap (λ a. cond a 1 0) y)) ∙ sym s ∙ e in
          ap (λ a. a || list_any p xs) y ∙ is_true b (count_by p xs) n)
      | inr z ↦ (let n : 0 + count_by p xs ≡ cond b 1 0 = ap (λ k. k + count_by p xs) (sym (ap (λ a. cond a 1 0) z)) ∙ sym s ∙ e in
          let m : count_by p xs ≡ 0 + count_by p xs = omega arith in
          ap (λ a. a || list_any p xs) z ∙ count_any p xs b (m ∙ n))
    ]
  where
    is_true : (b : Bool) (n : ℕ) → 1 + n ≡ cond b 1 0 → true ≡ b
    is_true true n e = refl
    is_true false n e = absurd (omega (arith, e))

-- a kid for which a test holds
record IsKidFor (test : Kid → Bool) (kids : List Kid) : Type 0 where
  pub place : ℕ
  pub kid : Kid
  pub there : slice_get kids place ≡ Some kid
  pub holds : test kid ≡ true

kid_for : (test : Kid → Bool) (kids : List Kid) → list_any test kids ≡ true → IsKidFor test kids
kid_for test [] e = absurd (false≢true e)
kid_for test (k ∷ kids) e = elim (cases_Bool (test k)) [
  | inl y ↦ record { place = 0; kid = k; there = refl; holds = y }
  | inr n ↦ (let r = kid_for test kids (sym (ap (λ b. b || list_any test kids) n) ∙ e) in record { place = suc r.place; kid = r.kid; there = r.there; holds = r.holds })
]

kid_with : (s : Scene) (at f : ℕ) (kids : List Kid) (v : ℕ) → IsCutNode s.tops s.leaves s.nodes at f kids → v ≤ slice_index s.tops f → IsKidFor (λ kid. has kid.set v) kids
kid_with s at f kids v node le =
    kid_for (λ kid. has kid.set v) kids (count_any (λ (kid : Kid). has kid.set v) kids true (node.parted v ∙ cond-true (nat_le v (slice_index s.tops f)) 1 0 (le-leb v (slice_index s.tops f) le)))

hit_by : (s : Scene) (side : Side) (at : ℕ) (kids : List Kid) (p : Packet) (x : List ℕ) → IsCutNode s.tops s.leaves s.nodes at (number_of side) kids → IsPoint s p x
    → ((set : List Iv) → has set (slice_index x (number_of side)) ≡ true → hits side set p ≡ true) → IsHitKid side kids p
hit_by s side at kids p x node point hit =
    let r = kid_with s at (number_of side) kids (slice_index x (number_of side)) node (within_top s.tops x (number_of side) point.within node.field) in
    record { place = r.place; kid = r.kid; there = r.there; hit = hit r.kid.set r.holds }

kid_hit : (s : Scene) (side : Side) (at : ℕ) (kids : List Kid) (p : Packet) (x : List ℕ) → IsCutNode s.tops s.leaves s.nodes at (number_of side) kids → IsPoint s p x
    → IsHitKid side kids p ⊎ IsUntold x (number_of side)
kid_hit s Proto at kids p x node point = inl (hit_by s Proto at kids p x node point (λ set h. ap (has set) (sym point.seen.proto) ∙ h))
kid_hit s Dst at kids p x node point = inl (hit_by s Dst at kids p x node point (λ set h. ap (has set) (sym point.seen.dst) ∙ h))
kid_hit s Src at kids p x node point = inl (hit_by s Src at kids p x node point (λ set h. ap (has set) (sym point.seen.src) ∙ h))
kid_hit s Dport at kids p x node point = elim (cases_Bool (has_ports p.proto)) [
  | inl y ↦ inl (hit_by s Dport at kids p x node point (λ set h. and_from (has_ports p.proto) (has set p.dport) y (ap (has set) (sym point.seen.dport) ∙ h)))
  | inr n ↦ inr (port_untold x 3 (inl refl) (ap has_ports point.seen.proto ∙ n))
]
kid_hit s Sport at kids p x node point = elim (cases_Bool (has_ports p.proto)) [
  | inl y ↦ inl (hit_by s Sport at kids p x node point (λ set h. and_from (has_ports p.proto) (has set p.sport) y (ap (has set) (sym point.seen.sport) ∙ h)))
  | inr n ↦ inr (port_untold x 5 (inr refl) (ap has_ports point.seen.proto ∙ n))
]
kid_hit s Icmp at kids p x node point = elim (cases_Bool (nat_eq p.proto 1)) [
  | inl y ↦ inl (hit_by s Icmp at kids p x node point (λ set h. and_from (nat_eq p.proto 1) (has set p.icmp) y (ap (has set) (sym point.seen.icmp) ∙ h)))
  | inr n ↦ inr (type_untold x (λ is. false≢true (sym n ∙ eq-eqb p.proto 1 (sym point.seen.proto ∙ is))))
]

-- ---- tests lead

-- a turn of a test, on whose path a packet comes to the node
abbrev Leading : Scene → Option Bool → Packet → List ℕ → Bool → Turn → Type 0
Leading s pass p x b turn = (turn.falls ≡ pass) × (path_has turn.path p ≡ true → Comes s turn.node x b)

lead_tests : (s : Scene) (falls pass : Option Bool) (p : Packet) (x : List ℕ) (b : Bool) (tests rest : List Turn) → All (Leading s pass p x b) tests
    → (some_turn_has tests p ≡ false → Leads s falls p x b rest) → (pass ≡ Some b → Leads s falls p x b rest) → Leads s falls p x b (tests ++ rest)
lead_tests s falls pass p x b [] rest all none passed = none refl
lead_tests s falls pass p x b (turn ∷ tests) rest all none passed =
    let head = All-head (Leading s pass p x b) turn tests all in
    let tail = All-tail (Leading s pass p x b) turn tests all in
    elim (cases_Bool (path_has turn.path p)) [
      | inl y ↦ inl (y, head.1 y, λ m. lead_tests s falls pass p x b tests rest tail (λ e. passed (sym head.0 ∙ m)) passed)
      | inr n ↦ inr (n, lead_tests s falls pass p x b tests rest tail (λ e. none (ap (λ b. b || some_turn_has tests p) n ∙ e)) passed)
    ]

none_has : (turns : List Turn) (p : Packet) → All (λ turn. path_has turn.path p ≡ false) turns → some_turn_has turns p ≡ false
none_has [] p h = refl
none_has (turn ∷ turns) p h =
    ap (λ b. b || some_turn_has turns p) (All-head (λ (t : Turn). path_has t.path p ≡ false) turn turns h) ∙ none_has turns p (All-tail (λ (t : Turn). path_has t.path p ≡ false) turn turns h)

-- ---- all turns of a cut

-- the kid that is left to the end is a leaf where packets fall to a value
abbrev pub FallsTo : Scene → ℕ → Option Bool → Type 0
FallsTo s n pass = (b : Bool) → pass ≡ Some b → below s n ≡ leaf b

pub falls_by : (s : Scene) (n : ℕ) (pass : Option Bool) → IfSome pass (λ b. below s n ≡ leaf b) → FallsTo s n pass
falls_by s n None h = λ b e. absurd (none-some b e)
falls_by s n (Some a) h = λ b e. subst (λ v. below s n ≡ leaf v) (same_Some a b e) h

-- a cut for packets on a path
pub record IsTurned (s : Scene) (at : ℕ) (side : Side) (kids : List Kid) (path : Path) (last : ℕ) (pass : Option Bool) (tests : List Turn) : Type 0 where
  pub laws : NodeLaws
  pub planned : IsPlanned s
  pub inside : at < length s.nodes
  pub node : IsCutNode s.tops s.leaves s.nodes at (number_of side) kids
  pub good : IsGoodPath (number_of side) path
  pub last_is : IsKidNode kids last
  pub falls_to : FallsTo s last pass
  pub tested : AreTests side kids path last pass (length kids) tests

-- a path to a kid of a node
kid_path : (s : Scene) (at f from : ℕ) (kids : List Kid) (path : Path) (i : ℕ) (kid : Kid) → IsCutNode s.tops s.leaves s.nodes at f kids → slice_get kids i ≡ Some kid
    → from ≤ suc f → IsGoodPath from path → IsPathTo s kid.node path
kid_path s at f from kids path i kid node there le good = (from, good, λ g others c. let a = kid_cuts s at f kids i kid node there g others c in omega (arith, a, le))

module _ (s : Scene) (at : ℕ) (side : Side) (kids : List Kid) (path : Path) (last : ℕ) (pass : Option Bool) (tests : List Turn) (h : IsTurned s at side kids path last pass tests) where
  come_by : (p : Packet) (x : List ℕ) (b : Bool) (i : ℕ) (kid : Kid) → slice_get kids i ≡ Some kid → IsPoint s p x → Comes s at x b → hits side kid.set p ≡ true → Comes s kid.node x b
  come_by p x b i kid there point come hit =
      let t = hit_told side kid.set p x point.seen hit in
      come_hit h.laws s at (number_of side) kids i kid x b h.planned h.inside h.node there t.has_it t.same come

  -- a test leads
  lead_all : (p : Packet) (x : List ℕ) (b : Bool) → IsPoint s p x → Comes s at x b → All (Leading s pass p x b) tests
  lead_all p x b point come = All-weaker (IsKidTest side kids path pass) (Leading s pass p x b)
      (λ turn t. (t.3.falls_is, λ on. subst (λ n. Comes s n x b) (sym t.3.node) (come_by p x b t.0 t.1 t.2 point come (t.3.on p (point_addresses s p x h.planned point) on).1))) tests h.tested.each

  -- a kid that is hit where no test holds is left
  left_kid : (p : Packet) → HasAddresses p → path_has path p ≡ true → some_turn_has tests p ≡ false → (k : IsHitKid side kids p) → last ≡ k.kid.node
  left_kid p fine on none k = elim (h.tested.all k.place k.kid (slice_get_within kids k.place k.kid k.there) k.there) [
    | inl left ↦ left
    | inr f ↦ absurd (false≢true (sym none ∙ f p fine on k.hit))
  ]

  -- what hits no test comes to the last node
  come_left : (p : Packet) (x : List ℕ) (b : Bool) → IsPoint s p x → path_has path p ≡ true → Comes s at x b → some_turn_has tests p ≡ false → Comes s last x b
  come_left p x b point on come none = elim (kid_hit s side at kids p x h.node point) [
    | inl k ↦ subst (λ n. Comes s n x b) (sym (left_kid p (point_addresses s p x h.planned point) on none k)) (come_by p x b k.place k.kid k.there point come k.hit)
    | inr untold ↦ subst (λ n. Comes s n x b) h.last_is.node
        (come_any h.laws s at (number_of side) kids h.last_is.place h.last_is.kid x b h.planned h.inside h.node h.last_is.there untold come)
  ]

  turn_good : (turn : Turn) → IsKidTest side kids path pass turn → IsGoodTurn s at turn
  turn_good turn t =
      let before = kid_before s at (number_of side) kids t.0 t.1 h.node t.2 in let e = t.3.node in
      let le : suc (number_of side) ≤ suc (number_of side) = omega arith in record {
        before = omega (arith, before, e);
        good = subst (λ n. IsPathTo s n turn.path) (sym t.3.node) (kid_path s at (number_of side) (suc (number_of side)) kids turn.path t.0 t.1 h.node t.2 le t.3.good);
      }

  last_good : (falls : Option Bool) → IsGoodTurn s at (record { path = path; node = last; falls = falls })
  last_good falls =
      let k = h.last_is in
      let before = kid_before s at (number_of side) kids k.place k.kid h.node k.there in let e = k.node in
      let le : number_of side ≤ suc (number_of side) = omega arith in record {
        before = omega (arith, before, e);
        good = subst (λ n. IsPathTo s n path) k.node (kid_path s at (number_of side) (number_of side) kids path k.place k.kid h.node k.there le h.good);
      }

  off : (p : Packet) → HasAddresses p → path_has path p ≡ false → some_turn_has tests p ≡ false
  off p fine n = none_has tests p (All-weaker (IsKidTest side kids path pass) (λ turn. path_has turn.path p ≡ false)
      (λ turn t. elim (cases_Bool (path_has turn.path p)) [ inl y ↦ absurd (false≢true (sym n ∙ (t.3.on p fine y).0)) | inr z ↦ z ]) tests h.tested.each)

one_turn_good : (s : Scene) (at : ℕ) (turn : Turn) → IsGoodTurn s at turn → All (IsGoodTurn s at) (turn ∷ [])
one_turn_good s at turn g = All-cons (IsGoodTurn s at) turn [] g (All-nil (IsGoodTurn s at))

pub asked_made : (s : Scene) (at : ℕ) (side : Side) (kids : List Kid) (path : Path) (last : ℕ) (pass : Option Bool) (tests : List Turn) (falls : Option Bool)
    → IsTurned s at side kids path last pass tests → AreTurns s at path falls (tests ++ record { path = path; node = last; falls = falls } ∷ [])
asked_made s at side kids path last pass tests falls h =
    let turn : Turn = record { path = path; node = last; falls = falls } in record {
      good = All-append (IsGoodTurn s at) tests (turn ∷ [])
          (All-weaker (IsKidTest side kids path pass) (IsGoodTurn s at) (turn_good s at side kids path last pass tests h) tests h.tested.each)
          (one_turn_good s at turn (last_good s at side kids path last pass tests h falls));
      none = λ p fine n. list_any-append (λ (t : Turn). path_has t.path p) tests (turn ∷ [])
          ∙ ap (λ b. b || some_turn_has (turn ∷ []) p) (off s at side kids path last pass tests h p fine n) ∙ ap (λ b. b || false) n;
      leads = λ p x b point on come.
          let rest : Comes s last x b → Leads s falls p x b (turn ∷ []) = λ c. inl (on, c, λ e. e) in
          lead_tests s falls pass p x b tests (turn ∷ []) (lead_all s at side kids path last pass tests h p x b point come)
          (λ none. rest (come_left s at side kids path last pass tests h p x b point on come none))
          (λ e. rest (come_leaf s last x b (h.falls_to b e)));
    }

-- a cut of a field for which lists don't ask, for packets on a path
pub record IsOther (s : Scene) (at f : ℕ) (kids : List Kid) (path : Path) : Type 0 where
  pub laws : NodeLaws
  pub planned : IsPlanned s
  pub inside : at < length s.nodes
  pub cuts : slice_get s.nodes at ≡ Some (Cut f kids)
  pub node : IsCutNode s.tops s.leaves s.nodes at f kids
  pub good : IsPathTo s at path
  pub other : (f ≡ 0) ⊎ (f ≡ 6) ⊎ (8 ≤ f)

-- the turn to one of the kids is enough
pub other_made : (s : Scene) (at f : ℕ) (kids : List Kid) (path : Path) (falls : Option Bool) (kid : Kid) → slice_get kids 0 ≡ Some kid → IsOther s at f kids path
    → AreTurns s at path falls (record { path = path; node = kid.node; falls = falls } ∷ [])
other_made s at f kids path falls kid there h =
    let turn : Turn = record { path = path; node = kid.node; falls = falls } in
    let low : h.good.0 ≤ f = h.good.2 f kids h.cuts in
    let le : h.good.0 ≤ suc f = omega (arith, low) in record {
      good = one_turn_good s at turn (record { before = kid_before s at f kids 0 kid h.node there; good = kid_path s at f h.good.0 kids path 0 kid h.node there le h.good.1 });
      none = λ p fine n. ap (λ b. b || false) n;
      leads = λ p x b point on come. inl (on, come_any h.laws s at f kids 0 kid x b h.planned h.inside h.node there (other_untold x f h.other) come, λ e. e);
    }

-- ---- kids

-- what holds of each kid by its place
pub by_place : (P : Kid → Type 0) (kids : List Kid) → ((i : ℕ) (kid : Kid) → slice_get kids i ≡ Some kid → P kid) → All P kids
by_place P [] h = All-nil P
by_place P (k ∷ kids) h = All-cons P k kids (h 0 k refl) (by_place P kids (λ i kid e. h (suc i) kid e))

-- kids stand among the nodes
pub kids_inside : (s : Scene) (at f : ℕ) (kids : List Kid) → at < length s.nodes → IsCutNode s.tops s.leaves s.nodes at f kids → All (λ kid. kid.node < length s.nodes) kids
kids_inside s at f kids inside node = by_place (λ kid. kid.node < length s.nodes) kids (λ i kid there. let before = kid_before s at f kids i kid node there in omega (arith, before, inside))
