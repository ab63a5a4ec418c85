-- The turns of a cut.
use Rattle.std.proofs.Common.{◌≡◌, ◌⊎◌, ℕ, suc, ◌+◌, ◌<◌, ◌≤◌, Bool, true, false, ◌||◌, cond, Some, None, List, [], ◌∷◌, ◌++◌, length, get_or, slice_get, inl, inr, refl, sym, ◌∙◌, ap, subst, arith}
use Rattle.std.proofs.lemmas.Bool.{and_from, and_parts, cases_Bool, cond-true, cond-false, eqb-true, false≢true, le-leb, or_right}
use Rattle.std.proofs.lemmas.Bool.Decides.{nat_tests}
use Rattle.std.proofs.lemmas.List.Elements.{All-append, All-cons, All-head, All-nil, All-tail, All-weaker}
use Rattle.std.proofs.lemmas.List.Folds.{list_any-append}
use Rattle.std.proofs.lemmas.List.Sums.{sum_by-cons}
use Rattle.std.proofs.lemmas.Option.{none-some, same_Some, slice_get-get_or, slice_get_within}
use Rattle.std.specs.List.{count_by, list_any}
use Rattle.std.specs.Prelude.{nat_eq, nat_le, slice_index, All}
use Rattle.fws_iv.specs.declared.iv.Iv.{Iv}
use Rattle.fws_iv.specs.Ivs.{has}
use Rattle.fws_net.specs.declared.outcome.Outcome.{Outcome}
use Rattle.fws_net.specs.declared.packet.Packet.{Packet}
use Rattle.fws_net.specs.Conditions.{is_shown}
use Rattle.fws_net.specs.Fates.{has_ports}
use Rattle.fws_tree.specs.declared.node.Kid.{Kid}
use Rattle.fws_tree.specs.declared.node.Node.TheVariants.{Cut}
use Rattle.fws_tree_seen.specs.declared.seen.Seen.TheVariants.{Entered}
use Rattle.fws_tree_seen.specs.Cuts.{IsCutNode}
use Rattle.fws_tree_seen.specs.Reached.{IsOpen}
use Rattle.fws_tree_seen.specs.SightLaws.{ReachedValuesAreTold}
use Rattle.fws_pf_put_nat.specs.declared.ends.Ends.{Ends}
use Rattle.fws_pf_put_nat.specs.declared.ends.Ends.TheVariants as ends
use Rattle.fws_pf_put_nat.specs.declared.path.Path.{Path}
use Rattle.fws_pf_put_nat.specs.declared.side.Side.{Side}
use Rattle.fws_pf_put_nat.specs.declared.side.Side.TheVariants.{Entry, Proto, Dst, Dport, Src, Sport}
use Rattle.fws_pf_put_nat.specs.declared.turn.Last.{Last}
use Rattle.fws_pf_put_nat.specs.declared.turn.Last.TheVariants.{Root, Kept, Nothing}
use Rattle.fws_pf_put_nat.specs.declared.turn.Turn.{Turn}
use Rattle.fws_pf_put_nat.specs.Scenes.{CutsFrom, GetsNoEnd, IsCome, IsFine, IsPlanned, IsRootNode, Meets, Scene}
use Rattle.fws_pf_put_nat.specs.Turns.{last_turns, passes_root, some_turn_has, turns_to, AreKidTests, ArePaths, AreTests, AreTurns, IsAddress, IsGoodTurn, IsKidNode, IsLast, IsLeft, IsTest, Leads}
use Rattle.fws_pf_put_nat.specs.Blocks.{MayPass}
use Rattle.fws_pf_put_nat.specs.Paths.{hits, number_of, path_has, some_path_has, IsGoodPath}
use Rattle.fws_pf_put_nat.specs.Translations.{IsMet}
use Rattle.fws_pf_put_nat.proofs.Coming.{come_kid, none_by}
use Rattle.fws_pf_put_nat.proofs.Laws.{NodeLaws}
use Rattle.fws_pf_put_nat.proofs.Points.{kid_before, kid_cuts}

-- ---- the tests of a kid

tests_by : (s : Scene) (side : Side) (kid : Kid) (path : Path) (falls : Bool) (paths : List Path)
    → ((p : Packet) → IsFine s p → some_path_has paths p ≡ true → (path_has path p ≡ true) × (hits side kid.set p ≡ true))
    → All (IsGoodPath s.site s.outward (suc (number_of side))) paths → All (IsTest s side kid path falls) (turns_to kid.node falls paths)
tests_by s side kid path falls [] on good = All-nil (IsTest s side kid path falls)
tests_by s side kid path falls (x ∷ paths) on good =
    All-cons (IsTest s side kid path falls) (record { path = x; node = kid.node; falls = falls }) (turns_to kid.node falls paths)
    (record {
      node = refl;
      good = All-head (IsGoodPath s.site s.outward (suc (number_of side))) x paths good;
      falls_is = refl;
      on = λ p fine h. on p fine (ap (λ b. b || some_path_has paths p) h);
    })
    (tests_by s side kid path falls paths (λ p fine h. on p fine (or_right (path_has x p) (some_path_has paths p) h)) (All-tail (IsGoodPath s.site s.outward (suc (number_of side))) x paths good))

turns_have : (node : ℕ) (falls : Bool) (paths : List Path) (p : Packet) → some_turn_has (turns_to node falls paths) p ≡ some_path_has paths p
turns_have node falls [] p = refl
turns_have node falls (x ∷ paths) p = ap (λ b. path_has x p || b) (turns_have node falls paths p)

pub kid_tests : (s : Scene) (side : Side) (kid : Kid) (path : Path) (last : Last) (paths : List Path) → ArePaths s side kid.set path (suc (number_of side)) paths
    → AreKidTests s side kid path last (turns_to kid.node (passes_root last) paths)
kid_tests s side kid path last paths h = record {
  each = tests_by s side kid path (passes_root last) paths (λ p fine e. and_parts (path_has path p) (hits side kid.set p) (sym (h.same p fine) ∙ e)) h.good;
  all = inr (λ p fine on hit. turns_have kid.node (passes_root last) paths p ∙ h.same p fine ∙ and_from (path_has path p) (hits side kid.set p) on hit);
}

pub kid_left : (s : Scene) (side : Side) (kid : Kid) (path : Path) (last : Last) → IsLeft s last kid.node → AreKidTests s side kid path last []
kid_left s side kid path last left = record { each = All-nil (IsTest s side kid path (passes_root last)); all = inl left }

-- ---- the tests of kids

abbrev IsKidTest : Scene → Side → List Kid → Path → Last → Turn → Type 0
IsKidTest s side kids path last turn = (i : ℕ) × (kid : Kid) × (slice_get kids i ≡ Some kid) × IsTest s side kid path (passes_root last) turn

pub no_tests : (s : Scene) (side : Side) (kids : List Kid) (path : Path) (last : Last) → AreTests s side kids path last 0 []
no_tests s side kids path last = record { each = All-nil (IsKidTest s side kids path last); all = λ i kid lt. absurd (omega (arith, lt)) }

some_left : (a b : List Turn) (p : Packet) → some_turn_has a p ≡ true → some_turn_has (a ++ b) p ≡ true
some_left a b p e = list_any-append (λ (t : Turn). path_has t.path p) a b ∙ ap (λ c. c || some_turn_has b p) e

some_right : (a b : List Turn) (p : Packet) → some_turn_has b p ≡ true → some_turn_has (a ++ b) p ≡ true
some_right a b p e = list_any-append (λ (t : Turn). path_has t.path p) a b ∙ or_right (some_turn_has a p) (some_turn_has b p) e

pub tests_more : (s : Scene) (side : Side) (kids : List Kid) (path : Path) (last : Last) (n : ℕ) (kid : Kid) (turns more : List Turn) → slice_get kids n ≡ Some kid
    → AreTests s side kids path last n turns → AreKidTests s side kid path last more → AreTests s side kids path last (n + 1) (turns ++ more)
tests_more s side kids path last n kid turns more there h g = record {
  each = All-append (IsKidTest s side kids path last) turns more h.each
      (All-weaker (IsTest s side kid path (passes_root last)) (IsKidTest s side kids path last) (λ turn test. (n, kid, there, test)) more g.each);
  all = λ i k lt at. elim (cases_Bool (nat_eq i n)) [
    | inl y ↦ (let same : i ≡ n = eqb-true i n y in
        let is : kid ≡ k = same_Some kid k (sym there ∙ ap (slice_get kids) (sym same) ∙ at) in
        elim g.all [
          | inl left ↦ inl (subst (λ (x : Kid). IsLeft s last x.node) is left)
          | inr f ↦ inr (λ p fine on hit. some_right turns more p (f p fine on (subst (λ (x : Kid). hits side x.set p ≡ true) (sym is) hit)))
        ])
    | inr z ↦ elim (h.all i k (earlier i n lt z) at) [
      | inl left ↦ inl left
      | inr f ↦ inr (λ p fine on hit. some_left turns more p (f p fine on hit))
    ]
  ];
}
  where
    earlier : (i n : ℕ) → i < n + 1 → nat_eq i n ≡ false → i < n
    earlier i n lt ne = grind (arith, nat_tests)

-- ---- where packets go at a cut

-- a kid whose set a packet hits
record IsHitKid (side : Side) (kids : List Kid) (p : Packet) : Type 0 where
  pub place : ℕ
  pub kid : Kid
  pub there : slice_get kids place ≡ Some kid
  pub hit : hits side kid.set p ≡ true

-- a field that the protocol of a packet lacks
abbrev Lacks : Side → Packet → Type 0
Lacks Dport p = has_ports p.proto ≡ false
Lacks Sport p = has_ports p.proto ≡ false
Lacks _ p = ⊥

-- what is counted once is there
count_any : {X : Type 0} (p : X → Bool) (xs : List X) (b : Bool) → count_by p xs ≡ cond b 1 0 → list_any p xs ≡ b
count_any p [] true e = absurd (omega (arith, e))
count_any p [] false e = refl
count_any p (x ∷ xs) b e =
    let s = sum_by-cons (λ x. cond (p x) 1 0) x xs in
    elim (cases_Bool (p x)) [
      | inl y ↦ (let n : 1 + count_by p xs ≡ cond b 1 0 = ap (λ k. k + count_by p xs) (sym (ap (λ a. cond a 1 0) y)) ∙ sym s ∙ e in
          ap (λ a. a || list_any p xs) y ∙ is_true b (count_by p xs) n)
      | inr z ↦ (let n : 0 + count_by p xs ≡ cond b 1 0 = ap (λ k. k + count_by p xs) (sym (ap (λ a. cond a 1 0) z)) ∙ sym s ∙ e in
          let m : count_by p xs ≡ 0 + count_by p xs = omega arith in
          ap (λ a. a || list_any p xs) z ∙ count_any p xs b (m ∙ n))
    ]
  where
    is_true : (b : Bool) (n : ℕ) → 1 + n ≡ cond b 1 0 → true ≡ b
    is_true true n e = refl
    is_true false n e = absurd (omega (arith, e))

-- a kid for which a test holds
pub record IsKidFor (test : Kid → Bool) (kids : List Kid) : Type 0 where
  pub place : ℕ
  pub kid : Kid
  pub there : slice_get kids place ≡ Some kid
  pub holds : test kid ≡ true

kid_for : (test : Kid → Bool) (kids : List Kid) → list_any test kids ≡ true → IsKidFor test kids
kid_for test [] e = absurd (false≢true e)
kid_for test (k ∷ kids) e = elim (cases_Bool (test k)) [
  | inl y ↦ record { place = 0; kid = k; there = refl; holds = y }
  | inr n ↦ (let r = kid_for test kids (sym (ap (λ b. b || list_any test kids) n) ∙ e) in record { place = suc r.place; kid = r.kid; there = r.there; holds = r.holds })
]

pub kid_with : (s : Scene) (at f : ℕ) (kids : List Kid) (v : ℕ) → IsCutNode s.tops s.leaves s.nodes at f kids → v ≤ slice_index s.tops f → IsKidFor (λ kid. has kid.set v) kids
kid_with s at f kids v node le =
    kid_for (λ kid. has kid.set v) kids (count_any (λ (kid : Kid). has kid.set v) kids true (node.parted v ∙ cond-true (nat_le v (slice_index s.tops f)) 1 0 (le-leb v (slice_index s.tops f) le)))

hit_by : (s : Scene) (side : Side) (at f : ℕ) (kids : List Kid) (p : Packet) (v : ℕ) → IsCutNode s.tops s.leaves s.nodes at f kids → v ≤ slice_index s.tops f → ((set : List Iv) → has set v ≡ true → hits side set p ≡ true) → IsHitKid side kids p
hit_by s side at f kids p v node le hit = let r = kid_with s at f kids v node le in record { place = r.place; kid = r.kid; there = r.there; hit = hit r.kid.set r.holds }

met_in : (outward : Bool) (tops : List ℕ) (e : ℕ) → (outward ≡ true → 1 ≤ 0) → IsMet outward tops e → IsMet false tops e
met_in true tops e not-out met = absurd (let z = not-out refl in omega (arith, z))
met_in false tops e not-out met = met

shown_entry : (p : Packet) (set : List Iv) → 1 ≤ p.entry → has set p.entry ≡ true → hits Entry set p ≡ true
shown_entry p set some h = ap (λ o. is_shown o set) (cond-false (nat_eq p.entry 0) None (Some p.entry) (not_zero p.entry some)) ∙ h
  where
    not_zero : (n : ℕ) → 1 ≤ n → nat_eq n 0 ≡ false
    not_zero n le = grind (arith, nat_tests)

kid_hit : (s : Scene) (side : Side) (at : ℕ) (kids : List Kid) (p : Packet) → IsFine s p → IsCutNode s.tops s.leaves s.nodes at (number_of side) kids → (s.outward ≡ true → 1 ≤ number_of side)
    → IsHitKid side kids p ⊎ Lacks side p
kid_hit s Entry at kids p fine node inward =
    let met : IsMet false s.tops p.entry = met_in s.outward s.tops p.entry inward fine.met in
    inl (hit_by s Entry at 0 kids p p.entry node met.1 (λ set h. shown_entry p set met.0 h))
kid_hit s Proto at kids p fine node inward = inl (hit_by s Proto at 1 kids p p.proto node (fine.topped 1 p.proto refl refl) (λ set h. h))
kid_hit s Dst at kids p fine node inward = inl (hit_by s Dst at 2 kids p p.dst node (fine.topped 2 p.dst refl refl) (λ set h. h))
kid_hit s Src at kids p fine node inward = inl (hit_by s Src at 4 kids p p.src node (fine.topped 4 p.src refl refl) (λ set h. h))
kid_hit s Dport at kids p fine node inward = elim (cases_Bool (has_ports p.proto)) [
  | inl y ↦ inl (hit_by s Dport at 3 kids p p.dport node (fine.topped 3 p.dport y refl) (λ set h. and_from (has_ports p.proto) (has set p.dport) y h))
  | inr n ↦ inr n
]
kid_hit s Sport at kids p fine node inward = elim (cases_Bool (has_ports p.proto)) [
  | inl y ↦ inl (hit_by s Sport at 5 kids p p.sport node (fine.topped 5 p.sport y refl) (λ set h. and_from (has_ports p.proto) (has set p.sport) y h))
  | inr n ↦ inr n
]

-- what a packet hits is open to it
hit_opens : (side : Side) (set : List Iv) (p : Packet) → hits side set p ≡ true → IsOpen Entered p (number_of side) set
hit_opens Entry set p h = λ v a e. absurd (none-some v e)
hit_opens Proto set p h = λ v a e. subst (λ n. has set n ≡ true) (same_Some p.proto v e) h
hit_opens Dst set p h = λ v a e. subst (λ n. has set n ≡ true) (same_Some p.dst v e) h
hit_opens Src set p h = λ v a e. subst (λ n. has set n ≡ true) (same_Some p.src v e) h
hit_opens Dport set p h = λ v a e. subst (λ n. has set n ≡ true) (same_Some p.dport v e) (and_parts (has_ports p.proto) (has set p.dport) h).1
hit_opens Sport set p h = λ v a e. subst (λ n. has set n ≡ true) (same_Some p.sport v e) (and_parts (has_ports p.proto) (has set p.sport) h).1

hit_entry : (side : Side) (set : List Iv) (p : Packet) → hits side set p ≡ true → number_of side ≡ 0 → has set p.entry ≡ true
hit_entry Entry set p h z = elim (cases_Bool (nat_eq p.entry 0)) [
  | inl y ↦ absurd (false≢true (sym (ap (λ o. is_shown o set) (cond-true (nat_eq p.entry 0) None (Some p.entry) y)) ∙ h))
  | inr n ↦ sym (ap (λ o. is_shown o set) (cond-false (nat_eq p.entry 0) None (Some p.entry) n)) ∙ h
]
hit_entry Proto set p h z = absurd (omega (arith, z))
hit_entry Dst set p h z = absurd (omega (arith, z))
hit_entry Src set p h z = absurd (omega (arith, z))
hit_entry Dport set p h z = absurd (omega (arith, z))
hit_entry Sport set p h z = absurd (omega (arith, z))

-- where the protocol lacks the field each set is open
lacks_opens : (side : Side) (set : List Iv) (p : Packet) → Lacks side p → IsOpen Entered p (number_of side) set
lacks_opens Entry set p h = absurd h
lacks_opens Proto set p h = absurd h
lacks_opens Dst set p h = absurd h
lacks_opens Src set p h = absurd h
lacks_opens Dport set p h = λ v a e. absurd (false≢true (sym h ∙ a))
lacks_opens Sport set p h = λ v a e. absurd (false≢true (sym h ∙ a))

lacks_later : (side : Side) (p : Packet) → Lacks side p → number_of side ≡ 0 → ⊥
lacks_later Entry p h z = h
lacks_later Proto p h z = h
lacks_later Dst p h z = h
lacks_later Src p h z = h
lacks_later Dport p h z = omega (arith, z)
lacks_later Sport p h z = omega (arith, z)

lacks_address : (side : Side) (p : Packet) → Lacks side p → IsAddress side → ⊥
lacks_address Entry p h a = h
lacks_address Proto p h a = h
lacks_address Dst p h a = h
lacks_address Src p h a = h
lacks_address Dport p h a = a
lacks_address Sport p h a = a

-- ---- tests lead

-- a turn of a test, on whose path a packet meets the node
abbrev Leading : Scene → Bool → Packet → Turn → Type 0
Leading s pass p turn = (turn.falls ≡ pass) × (path_has turn.path p ≡ true → Meets s turn.node p)

lead_tests : (s : Scene) (falls pass : Bool) (p : Packet) (tests rest : List Turn) → All (Leading s pass p) tests → (some_turn_has tests p ≡ false → Leads s falls p rest) → (MayPass s pass p → Leads s falls p rest)
    → Leads s falls p (tests ++ rest)
lead_tests s falls pass p [] rest all none passed = none refl
lead_tests s falls pass p (turn ∷ tests) rest all none passed =
    let head = All-head (Leading s pass p) turn tests all in
    let tail = All-tail (Leading s pass p) turn tests all in
    elim (cases_Bool (path_has turn.path p)) [
      | inl y ↦ inl (y, head.1 y, λ m. lead_tests s falls pass p tests rest tail (λ e. passed (subst (λ b. MayPass s b p) head.0 m)) passed)
      | inr n ↦ inr (n, lead_tests s falls pass p tests rest tail (λ e. none (ap (λ b. b || some_turn_has tests p) n ∙ e)) passed)
    ]

none_has : (turns : List Turn) (p : Packet) → All (λ turn. path_has turn.path p ≡ false) turns → some_turn_has turns p ≡ false
none_has [] p h = refl
none_has (turn ∷ turns) p h =
    ap (λ b. b || some_turn_has turns p) (All-head (λ (t : Turn). path_has t.path p ≡ false) turn turns h) ∙ none_has turns p (All-tail (λ (t : Turn). path_has t.path p ≡ false) turn turns h)

-- ---- all turns of a cut

-- a cut for packets on a path
pub record IsTurned (s : Scene) (at : ℕ) (side : Side) (kids : List Kid) (path : Path) (last : Last) (tests : List Turn) : Type 0 where
  pub laws : NodeLaws
  pub told : ReachedValuesAreTold Outcome
  pub planned : IsPlanned s
  pub inside : at < length s.nodes
  pub cuts : slice_get s.nodes at ≡ Some (Cut (number_of side) kids)
  pub good : IsGoodPath s.site s.outward (number_of side) path
  pub inward : s.outward ≡ true → 1 ≤ number_of side
  pub last_is : IsLast s side kids last
  pub tested : AreTests s side kids path last (length kids) tests

module _ (s : Scene) (at : ℕ) (side : Side) (kids : List Kid) (path : Path) (last : Last) (tests : List Turn) (h : IsTurned s at side kids path last tests) where
  node : IsCutNode s.tops s.leaves s.nodes at (number_of side) kids
  node = h.laws.cut s.tops s.tree s.leaves s.nodes at (number_of side) kids h.planned.shared h.cuts

  before : (i : ℕ) (kid : Kid) → slice_get kids i ≡ Some kid → kid.node < at
  before i kid there = kid_before s at (number_of side) kids i kid node there

  come_by : (p : Packet) (i : ℕ) (kid : Kid) → slice_get kids i ≡ Some kid → IsCome s at p → hits side kid.set p ≡ true → IsCome s kid.node p
  come_by p i kid there come hit = come_kid h.laws s at (number_of side) kids i kid p h.planned h.inside h.cuts there (hit_opens side kid.set p hit) (hit_entry side kid.set p hit) come

  come_lacking : (p : Packet) (n : ℕ) → IsKidNode kids n → IsCome s at p → Lacks side p → IsCome s n p
  come_lacking p n k come lacks =
      subst (λ m. IsCome s m p) k.node
      (come_kid h.laws s at (number_of side) kids k.place k.kid p h.planned h.inside h.cuts k.there (lacks_opens side k.kid.set p lacks) (λ z. absurd (lacks_later side p lacks z)) come)

  no_end : (p : Packet) (n : ℕ) → n < length s.nodes → IsCome s n p → IsRootNode s n → GetsNoEnd s p
  no_end p n lt come root =
      let size = h.planned.ends.size in
      let e : Ends = get_or s.ends n ends.Nothing in
      let there : slice_get s.ends n ≡ Some e = slice_get-get_or s.ends n ends.Nothing (omega (arith, lt, size)) in
      none_by h.laws h.told s n p e h.planned come (h.planned.ends.each n e there) (root e there)

  kid_inside : (n : ℕ) → IsKidNode kids n → n < length s.nodes
  kid_inside n k = let b = before k.place k.kid k.there in let i = h.inside in let e = k.node in omega (arith, b, i, e)

  -- a test leads
  lead_all : (p : Packet) → IsFine s p → IsCome s at p → All (Leading s (passes_root last) p) tests
  lead_all p fine come = All-weaker (IsKidTest s side kids path last) (Leading s (passes_root last) p)
      (λ turn t. (t.3.falls_is, λ on. inl (subst (λ n. IsCome s n p) (sym t.3.node) (come_by p t.0 t.1 t.2 come (t.3.on p fine on).1)))) tests h.tested.each

  -- a kid that is hit where no test holds is left
  left_kid : (p : Packet) → IsFine s p → path_has path p ≡ true → some_turn_has tests p ≡ false → (k : IsHitKid side kids p) → IsLeft s last k.kid.node
  left_kid p fine on none k = elim (h.tested.all k.place k.kid (slice_get_within kids k.place k.kid k.there) k.there) [
    | inl left ↦ left
    | inr f ↦ absurd (false≢true (sym none ∙ f p fine on k.hit))
  ]

  turn_good : (turn : Turn) → IsKidTest s side kids path last turn → IsGoodTurn s at turn
  turn_good turn t =
      let b = before t.0 t.1 t.2 in let e = t.3.node in record {
        before = omega (arith, b, e);
        good = (suc (number_of side), t.3.good, subst (λ n. CutsFrom s n (suc (number_of side))) (sym t.3.node) (kid_cuts s at (number_of side) kids t.0 t.1 node t.2));
        later = subst (λ n. CutsFrom s n 1) (sym t.3.node) (λ f others c. let a = kid_cuts s at (number_of side) kids t.0 t.1 node t.2 f others c in omega (arith, a));
      }

  last_good : (n : ℕ) (falls : Bool) → IsKidNode kids n → IsGoodTurn s at (record { path = path; node = n; falls = falls })
  last_good n falls k =
      let b = before k.place k.kid k.there in let e = k.node in record {
        before = omega (arith, b, e);
        good = (number_of side, h.good, subst (λ m. CutsFrom s m (number_of side)) k.node (λ f others c. let a = kid_cuts s at (number_of side) kids k.place k.kid node k.there f others c in omega (arith, a)));
        later = subst (λ m. CutsFrom s m 1) k.node (λ f others c. let a = kid_cuts s at (number_of side) kids k.place k.kid node k.there f others c in omega (arith, a));
      }

  off : (p : Packet) → IsFine s p → path_has path p ≡ false → some_turn_has tests p ≡ false
  off p fine n = none_has tests p (All-weaker (IsKidTest s side kids path last) (λ turn. path_has turn.path p ≡ false)
      (λ turn t. elim (cases_Bool (path_has turn.path p)) [ inl y ↦ absurd (false≢true (sym n ∙ (t.3.on p fine y).0)) | inr z ↦ z ]) tests h.tested.each)

-- the last turn is that of a node whose packets get no end
root_turns : (s : Scene) (at : ℕ) (side : Side) (kids : List Kid) (path : Path) (n : ℕ) (falls : Bool) (tests : List Turn) → IsTurned s at side kids path (Root n) tests
    → (p : Packet) → IsFine s p → path_has path p ≡ true → IsCome s at p → Leads s falls p (tests ++ last_turns (Root n) path falls)
root_turns s at side kids path n falls tests h p fine on come =
    let rest : GetsNoEnd s p → Leads s falls p (last_turns (Root n) path falls) = λ none. inl (on, inr (h.last_is.0, none), λ m. m) in
    lead_tests s falls true p tests (last_turns (Root n) path falls) (lead_all s at side kids path (Root n) tests h p fine come)
    (λ none. rest (elim (kid_hit s side at kids p fine (node s at side kids path (Root n) tests h) h.inward) [
      | inl k ↦ (let b = before s at side kids path (Root n) tests h k.place k.kid k.there in let i = h.inside in
          no_end s at side kids path (Root n) tests h p k.kid.node (omega (arith, b, i)) (come_by s at side kids path (Root n) tests h p k.place k.kid k.there come k.hit)
          (left_kid s at side kids path (Root n) tests h p fine on none k))
      | inr lacks ↦ no_end s at side kids path (Root n) tests h p n (kid_inside s at side kids path (Root n) tests h n h.last_is.1) (come_lacking s at side kids path (Root n) tests h p n h.last_is.1 come lacks) h.last_is.0
    ]))
    (λ m. rest m.1)

-- the last turn is that of another kid
kept_turns : (s : Scene) (at : ℕ) (side : Side) (kids : List Kid) (path : Path) (n : ℕ) (falls : Bool) (tests : List Turn) → IsTurned s at side kids path (Kept n) tests
    → (p : Packet) → IsFine s p → path_has path p ≡ true → IsCome s at p → Leads s falls p (tests ++ last_turns (Kept n) path falls)
kept_turns s at side kids path n falls tests h p fine on come =
    lead_tests s falls false p tests (last_turns (Kept n) path falls) (lead_all s at side kids path (Kept n) tests h p fine come)
    (λ none. inl (
      on,
      inl (elim (kid_hit s side at kids p fine (node s at side kids path (Kept n) tests h) h.inward) [
        | inl k ↦ subst (λ m. IsCome s m p) (sym (left_kid s at side kids path (Kept n) tests h p fine on none k)) (come_by s at side kids path (Kept n) tests h p k.place k.kid k.there come k.hit)
        | inr lacks ↦ come_lacking s at side kids path (Kept n) tests h p n h.last_is come lacks
      ]),
      λ m. m,
    ))
    (λ m. absurd (false≢true m.0))

-- each packet hits a test
whole_turns : (s : Scene) (at : ℕ) (side : Side) (kids : List Kid) (path : Path) (falls : Bool) (tests : List Turn) → IsTurned s at side kids path Nothing tests
    → (p : Packet) → IsFine s p → path_has path p ≡ true → IsCome s at p → Leads s falls p (tests ++ [])
whole_turns s at side kids path falls tests h p fine on come =
    lead_tests s falls false p tests [] (lead_all s at side kids path Nothing tests h p fine come)
    (λ none. absurd (elim (kid_hit s side at kids p fine (node s at side kids path Nothing tests h) h.inward) [
      | inl k ↦ left_kid s at side kids path Nothing tests h p fine on none k
      | inr lacks ↦ lacks_address side p lacks h.last_is
    ]))
    (λ m. absurd (false≢true m.0))

one_turn_good : (s : Scene) (at : ℕ) (turn : Turn) → IsGoodTurn s at turn → All (IsGoodTurn s at) (turn ∷ [])
one_turn_good s at turn g = All-cons (IsGoodTurn s at) turn [] g (All-nil (IsGoodTurn s at))

pub cut_made : (s : Scene) (at : ℕ) (side : Side) (kids : List Kid) (path : Path) (falls : Bool) (last : Last) (tests : List Turn) → IsTurned s at side kids path last tests
    → AreTurns s at path falls (tests ++ last_turns last path falls)
cut_made s at side kids path falls (Root n) tests h = record {
  good = All-append (IsGoodTurn s at) tests (last_turns (Root n) path falls)
      (All-weaker (IsKidTest s side kids path (Root n)) (IsGoodTurn s at) (turn_good s at side kids path (Root n) tests h) tests h.tested.each)
      (one_turn_good s at _ (last_good s at side kids path (Root n) tests h n falls h.last_is.1));
  none = λ p fine n'. list_any-append (λ (t : Turn). path_has t.path p) tests (last_turns (Root n) path falls)
      ∙ ap (λ b. b || some_turn_has (last_turns (Root n) path falls) p) (off s at side kids path (Root n) tests h p fine n') ∙ ap (λ b. b || false) n';
  leads = root_turns s at side kids path n falls tests h;
}
cut_made s at side kids path falls (Kept n) tests h = record {
  good = All-append (IsGoodTurn s at) tests (last_turns (Kept n) path falls)
      (All-weaker (IsKidTest s side kids path (Kept n)) (IsGoodTurn s at) (turn_good s at side kids path (Kept n) tests h) tests h.tested.each)
      (one_turn_good s at _ (last_good s at side kids path (Kept n) tests h n falls h.last_is));
  none = λ p fine n'. list_any-append (λ (t : Turn). path_has t.path p) tests (last_turns (Kept n) path falls)
      ∙ ap (λ b. b || some_turn_has (last_turns (Kept n) path falls) p) (off s at side kids path (Kept n) tests h p fine n') ∙ ap (λ b. b || false) n';
  leads = kept_turns s at side kids path n falls tests h;
}
cut_made s at side kids path falls Nothing tests h = record {
  good = All-append (IsGoodTurn s at) tests []
      (All-weaker (IsKidTest s side kids path Nothing) (IsGoodTurn s at) (turn_good s at side kids path Nothing tests h) tests h.tested.each) (All-nil (IsGoodTurn s at));
  none = λ p fine n'. list_any-append (λ (t : Turn). path_has t.path p) tests [] ∙ ap (λ b. b || false) (off s at side kids path Nothing tests h p fine n');
  leads = whole_turns s at side kids path falls tests h;
}
