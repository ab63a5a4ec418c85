-- The boxes that are asked of the packets of a class.
use Rattle.std.proofs.Common.{◌≡◌, ℕ, ◌<◌, ◌≤◌, Bool, true, false, ◌&&◌, ◌||◌, not, List, [], ◌∷◌, length, ◌⊎◌, inl, inr, refl, sym, ◌∙◌, ap, subst, arith}
use Rattle.std.proofs.lemmas.Bool.{and_from, and_parts, cases_Bool, cond-true, cond-false, eq-eqb, eqb-true, false≢true, le-leb, leb-true, not-true, or_cases, or_left, or_right}
use Rattle.std.specs.Prelude.{nat_eq, nat_le, nat_lt, slice_index}
use Rattle.fws_box.specs.Sides.{IsWithin, sides_have}
use Rattle.fws_iv.specs.declared.iv.Iv.{Iv}
use Rattle.fws_iv.specs.Ivs.{has}
use Rattle.fws_net.specs.declared.site.Site.{Site}
use Rattle.fws_net.specs.Fates.{has_ports}
use Rattle.fws_net.specs.Points.{tops_of}
use Rattle.fws_tree.specs.Plain.{Plain}
use Rattle.fws_ios_put_entries.specs.declared.side.Side.{Side}
use Rattle.fws_ios_put_entries.specs.declared.side.Side.TheVariants.{Proto, Src, Sport, Dst, Dport, Icmp}
use Rattle.fws_ios_put_entries.specs.Paths.{number_of, top_of}
use Rattle.fws_ios_put_entries.specs.Seen.{LookSame}
use Rattle.fws_ios_put_cover.specs.declared.class.Class.{Class}
use Rattle.fws_ios_put_cover.specs.declared.class.Class.TheVariants.{Tcp, Ports, Types, Others}
use Rattle.fws_ios_put_cover.specs.Boxes.{is_seen, is_whole, part, IsAsked}
use Rattle.fws_ios_put_cover.specs.Classes.{asks_ports, asks_types, keeps, takes, whole, IsPart}
use Rattle.fws_ios_put_cover.specs.Inside.{IsFilledBox, IsInside, LooksInside}
use Rattle.fws_ios_put_cover.proofs.Points.{have_at, have_from, mixed, mixed_at, mixed_within, within_at, within_length}

-- ---- sets with all values

pub whole_has : (top v : ℕ) → v ≤ top → has (record { lo = 0; hi = top } ∷ []) v ≡ true
whole_has top v le = ap (λ b. b || false) (and_from (nat_le 0 v) (nat_le v top) (le-leb 0 v (omega arith)) (le-leb v top le))

pub whole_low : (top v : ℕ) → has (record { lo = 0; hi = top } ∷ []) v ≡ true → v ≤ top
whole_low top v h = leb-true v top (and_parts (nat_le 0 v) (nat_le v top) (plain (nat_le 0 v && nat_le v top) h)).1
  where
    plain : (b : Bool) → (b || false) ≡ true → b ≡ true
    plain true h = refl
    plain false h = h

pub whole_is : (top : ℕ) → is_whole top (record { lo = 0; hi = top } ∷ []) ≡ true
whole_is top = eq-eqb top top refl

-- ---- fields that are kept

kept_fields : (class : Class) (P : ℕ → Type 0) → P 2 → P 4 → (asks_ports class ≡ true → P 3 × P 5) → (asks_types class ≡ true → P 7) → (f : ℕ) → keeps class f ≡ true → P f
kept_fields class P p2 p4 ports types f h = elim (or_cases (nat_eq f 2 || nat_eq f 4) ((asks_ports class && (nat_eq f 3 || nat_eq f 5)) || (asks_types class && nat_eq f 7)) h) [
  | inl a ↦ elim (or_cases (nat_eq f 2) (nat_eq f 4) a) [
    | inl e ↦ subst P (sym (eqb-true f 2 e)) p2
    | inr e ↦ subst P (sym (eqb-true f 4 e)) p4
  ]
  | inr b ↦ elim (or_cases (asks_ports class && (nat_eq f 3 || nat_eq f 5)) (asks_types class && nat_eq f 7) b) [
    | inl c ↦ (let parts = and_parts (asks_ports class) (nat_eq f 3 || nat_eq f 5) c in
        elim (or_cases (nat_eq f 3) (nat_eq f 5) parts.1) [
          | inl e ↦ subst P (sym (eqb-true f 3 e)) (ports parts.0).0
          | inr e ↦ subst P (sym (eqb-true f 5 e)) (ports parts.0).1
        ])
    | inr d ↦ (let parts = and_parts (asks_types class) (nat_eq f 7) d in subst P (sym (eqb-true f 7 parts.1)) (types parts.0))
  ]
]

lit_le : (a b : ℕ) → nat_le a b ≡ true → a ≤ b
lit_le a b e = leb-true a b e

kept_bounds : (class : Class) (f : ℕ) → keeps class f ≡ true → (2 ≤ f) × (f < 8)
kept_bounds class = kept_fields class (λ f. (2 ≤ f) × (f < 8)) (lit_le 2 2 refl, lit_le 3 8 refl) (lit_le 2 4 refl, lit_le 5 8 refl)
    (λ h. ((lit_le 2 3 refl, lit_le 4 8 refl), (lit_le 2 5 refl, lit_le 6 8 refl))) (λ h. (lit_le 2 7 refl, lit_le 8 8 refl))

kept_seen : (class : Class) (f : ℕ) → keeps class f ≡ true → is_seen f ≡ true
kept_seen class = kept_fields class (λ f. is_seen f ≡ true) refl refl (λ h. (refl, refl)) (λ h. refl)

-- what a set is: the protocols, a set that is kept, or all values
sorted : (class : Class) (tops : List ℕ) (sides new : List (List Iv)) (h : IsPart class tops sides new) (P : ℕ → List Iv → Type 0) → P 1 h.protos → ((f : ℕ) → keeps class f ≡ true → P f (part sides f))
    → ((f : ℕ) → P f (whole tops f)) → (f : ℕ) → f < 12 → P f (part new f)
sorted class tops sides new h P one keep all f less = elim (cases_Bool (nat_eq f 1)) [
  | inl e ↦ subst (λ g. P g (part new g)) (sym (eqb-true f 1 e)) (subst (P 1) (sym h.before.protos_are) one)
  | inr ne ↦ elim (cases_Bool (keeps class f)) [
    | inl y ↦ (let bounds = kept_bounds class f y in subst (P f) (sym (h.before.kept f bounds.0 bounds.1 y)) (keep f y))
    | inr n ↦ subst (P f) (sym (h.before.whole_are f less ne (ap (λ b. nat_lt f 8 && b) n ∙ no_more (nat_lt f 8)))) (all f)
  ]
]
  where
    no_more : (a : Bool) → (a && false) ≡ false
    no_more true = refl
    no_more false = refl

-- a field of the first twelve
field_less : (side : Side) → number_of side < 12
field_less Proto = lit_le 2 12 refl
field_less Src = lit_le 5 12 refl
field_less Sport = lit_le 6 12 refl
field_less Dst = lit_le 3 12 refl
field_less Dport = lit_le 4 12 refl
field_less Icmp = lit_le 8 12 refl

pub field_top : (site : Site) (side : Side) → slice_index (tops_of site) (number_of side) ≡ top_of side
field_top site Proto = refl
field_top site Src = refl
field_top site Sport = refl
field_top site Dst = refl
field_top site Dport = refl
field_top site Icmp = refl

-- ---- a part

part_low : (class : Class) (tops : List ℕ) (sides new : List (List Iv)) → IsFilledBox tops sides → IsPart class tops sides new → (f : ℕ) → f < 12 → (v : ℕ) → has (part new f) v ≡ true → v ≤ slice_index tops f
part_low class tops sides new filled h f less v it =
    sorted class tops sides new h (λ g s. g < 12 → has s v ≡ true → v ≤ slice_index tops g)
    (λ l k. filled.low 1 v l (and_parts (has (part sides 1) v) (takes class v) (sym (h.members v) ∙ k)).0) (λ g keep l k. filled.low g v l k) (λ g l k. whole_low (slice_index tops g) v k) f less less it

-- the protocols of a part are those of the class
part_takes : (class : Class) (tops : List ℕ) (sides new : List (List Iv)) → IsPart class tops sides new → (v : ℕ) → has (part new 1) v ≡ true → takes class v ≡ true
part_takes class tops sides new h v it =
    (and_parts (has (part sides 1) v) (takes class v) (sym (h.members v) ∙ subst (λ s. has s v ≡ true) h.before.protos_are it)).1

-- a detail that isn't asked of the class has all values
part_whole : (class : Class) (tops : List ℕ) (sides new : List (List Iv)) → IsPart class tops sides new → (f : ℕ) → f < 12 → nat_eq f 1 ≡ false → keeps class f ≡ false
    → is_whole (slice_index tops f) (part new f) ≡ true
part_whole class tops sides new h f less one no_keep =
    subst (λ s. is_whole (slice_index tops f) s ≡ true) (sym (h.before.whole_are f less one (ap (λ b. nat_lt f 8 && b) no_keep ∙ no_more (nat_lt f 8)))) (whole_is (slice_index tops f))
  where
    no_more : (a : Bool) → (a && false) ≡ false
    no_more true = refl
    no_more false = refl

six_ports : (v : ℕ) → nat_eq v 6 ≡ true → has_ports v ≡ true
six_ports v e = or_left (nat_eq v 6) (nat_eq v 17) e

ports_asked : (class : Class) (site : Site) (sides new : List (List Iv)) → IsPart class (tops_of site) sides new → (f : ℕ) → (f ≡ 3) ⊎ (f ≡ 5) → is_whole 65535 (part new f) ≡ false
    → (v : ℕ) → takes class v ≡ true → has_ports v ≡ true
ports_asked Tcp site sides new h f is asked v it = six_ports v it
ports_asked Ports site sides new h f is asked v it = it
ports_asked Types site sides new h f (inl is) asked v it =
    absurd (false≢true (sym asked ∙ subst (λ g. is_whole 65535 (part new g) ≡ true) (sym is) (part_whole Types (tops_of site) sides new h 3 (lit_le 4 12 refl) refl refl)))
ports_asked Types site sides new h f (inr is) asked v it =
    absurd (false≢true (sym asked ∙ subst (λ g. is_whole 65535 (part new g) ≡ true) (sym is) (part_whole Types (tops_of site) sides new h 5 (lit_le 6 12 refl) refl refl)))
ports_asked Others site sides new h f (inl is) asked v it =
    absurd (false≢true (sym asked ∙ subst (λ g. is_whole 65535 (part new g) ≡ true) (sym is) (part_whole Others (tops_of site) sides new h 3 (lit_le 4 12 refl) refl refl)))
ports_asked Others site sides new h f (inr is) asked v it =
    absurd (false≢true (sym asked ∙ subst (λ g. is_whole 65535 (part new g) ≡ true) (sym is) (part_whole Others (tops_of site) sides new h 5 (lit_le 6 12 refl) refl refl)))

types_asked : (class : Class) (site : Site) (sides new : List (List Iv)) → IsPart class (tops_of site) sides new → is_whole 255 (part new 7) ≡ false → (v : ℕ) → takes class v ≡ true → v ≡ 1
types_asked Tcp site sides new h asked v it = absurd (false≢true (sym asked ∙ part_whole Tcp (tops_of site) sides new h 7 (lit_le 8 12 refl) refl refl))
types_asked Ports site sides new h asked v it = absurd (false≢true (sym asked ∙ part_whole Ports (tops_of site) sides new h 7 (lit_le 8 12 refl) refl refl))
types_asked Types site sides new h asked v it = eqb-true v 1 it
types_asked Others site sides new h asked v it = absurd (false≢true (sym asked ∙ part_whole Others (tops_of site) sides new h 7 (lit_le 8 12 refl) refl refl))

pub part_asked : (site : Site) (established : Bool) (class : Class) (sides new : List (List Iv)) → (established ≡ true → class ≡ Tcp) → IsFilledBox (tops_of site) sides
    → IsPart class (tops_of site) sides new → IsAsked established (tops_of site) new
part_asked site established class sides new tcp filled h = record {
  twelve = h.before.twelve;
  unseen = λ f less un v le.
      sorted class (tops_of site) sides new h (λ g s. is_seen g ≡ false → v ≤ slice_index (tops_of site) g → has s v ≡ true) (λ u l. absurd (false≢true (sym u)))
      (λ g keep u l. absurd (false≢true (sym u ∙ kept_seen class g keep))) (λ g u l. whole_has (slice_index (tops_of site) g) v l) f less un le;
  low = λ side v it. subst (λ n. v ≤ n) (field_top site side) (part_low class (tops_of site) sides new filled h (number_of side) (field_less side) v it);
  dport = λ asked v it. ports_asked class site sides new h 3 (inl refl) asked v (part_takes class (tops_of site) sides new h v it);
  sport = λ asked v it. ports_asked class site sides new h 5 (inr refl) asked v (part_takes class (tops_of site) sides new h v it);
  icmp = λ asked v it. types_asked class site sides new h asked v (part_takes class (tops_of site) sides new h v it);
  tcp = λ e v it. eqb-true v 6 (subst (λ k. takes k v ≡ true) (tcp e) (part_takes class (tops_of site) sides new h v it));
}

-- the part has the points of the class
pub part_covers : (class : Class) (tops : List ℕ) (sides new : List (List Iv)) → length tops ≡ 12 → length sides ≡ 12 → IsPart class tops sides new → (x : List ℕ) → IsWithin tops x → sides_have sides x ≡ true
    → takes class (slice_index x 1) ≡ true → sides_have new x ≡ true
part_covers class tops sides new many twelve h x within in_it takes_it =
    have_from new x (h.before.twelve ∙ sym (within_length tops x within ∙ many)) (λ f lt.
    let less : f < 12 = subst (λ n. f < n) h.before.twelve lt in
    sorted class tops sides new h (λ g s. g < 12 → has s (slice_index x g) ≡ true)
    (λ l. h.members (slice_index x 1) ∙ and_from (has (part sides 1) (slice_index x 1)) (takes class (slice_index x 1)) (have_at sides x 1 (subst (λ n. 1 < n) (sym twelve) l) in_it) takes_it)
    (λ g keep l. have_at sides x g (subst (λ n. g < n) (sym twelve) l) in_it)
    (λ g l. whole_has (slice_index tops g) (slice_index x g) (within_at tops x g within)) f less less)

-- ---- points that look the same

no_ports : (class : Class) (v : ℕ) → takes class v ≡ true → has_ports v ≡ true → asks_ports class ≡ true
no_ports Tcp v it ports = refl
no_ports Ports v it ports = refl
no_ports Types v it ports = absurd (false≢true (subst (λ n. has_ports n ≡ true) (eqb-true v 1 it) ports))
no_ports Others v it ports =
    let parts = and_parts (nat_le v 255 && not (has_ports v)) (not (nat_eq v 1)) it in
    let other = and_parts (nat_le v 255) (not (has_ports v)) parts.0 in absurd (false≢true (sym (not-true (has_ports v) other.1) ∙ ports))

no_types : (class : Class) (v : ℕ) → takes class v ≡ true → v ≡ 1 → asks_types class ≡ true
no_types Tcp v it one = absurd (false≢true (subst (λ n. nat_eq n 6 ≡ true) one it))
no_types Ports v it one = absurd (false≢true (subst (λ n. has_ports n ≡ true) one it))
no_types Types v it one = refl
no_types Others v it one =
    let parts = and_parts (nat_le v 255 && not (has_ports v)) (not (nat_eq v 1)) it in absurd (false≢true (subst (λ n. not (nat_eq n 1) ≡ true) one parts.1))

module _ (class : Class) (tops : List ℕ) (sides new : List (List Iv)) (many : length tops ≡ 12) (filled : IsFilledBox tops sides) (h : IsPart class tops sides new) (y : List ℕ) (at : IsWithin tops y)
    (in_it : sides_have new y ≡ true) where
  abbrev z : List ℕ
  z = filled.point

  abbrev keep : ℕ → Bool
  keep f = nat_eq f 1 || keeps class f

  abbrev x : List ℕ
  x = mixed keep y z

  equal : length y ≡ length z
  equal = within_length tops y at ∙ sym (within_length tops z filled.point_within)

  long : length y ≡ 12
  long = within_length tops y at ∙ many

  kept_same : (f : ℕ) → f < 12 → keep f ≡ true → slice_index x f ≡ slice_index y f
  kept_same f less k = mixed_at keep y z f equal (subst (λ n. f < n) (sym long) less) ∙ cond-true (keep f) (slice_index y f) (slice_index z f) k

  other_same : (f : ℕ) → f < 12 → keep f ≡ false → slice_index x f ≡ slice_index z f
  other_same f less k = mixed_at keep y z f equal (subst (λ n. f < n) (sym long) less) ∙ cond-false (keep f) (slice_index y f) (slice_index z f) k

  proto_takes : takes class (slice_index y 1) ≡ true
  proto_takes = part_takes class tops sides new h (slice_index y 1) (have_at new y 1 (subst (λ n. 1 < n) (sym h.before.twelve) (lit_le 2 12 refl)) in_it)

  member : (f : ℕ) → f < 12 → has (part sides f) (slice_index x f) ≡ true
  member f less = elim (cases_Bool (nat_eq f 1)) [
    | inl e ↦ (let one : f ≡ 1 = eqb-true f 1 e in
        subst (λ g. has (part sides g) (slice_index x g) ≡ true) (sym one)
        (subst (λ v. has (part sides 1) v ≡ true) (sym (kept_same 1 (lit_le 2 12 refl) refl))
        (and_parts (has (part sides 1) (slice_index y 1)) (takes class (slice_index y 1))
        (sym (h.members (slice_index y 1)) ∙ subst (λ s. has s (slice_index y 1) ≡ true) h.before.protos_are (have_at new y 1 (subst (λ n. 1 < n) (sym h.before.twelve) (lit_le 2 12 refl)) in_it))).0))
    | inr ne ↦ elim (cases_Bool (keeps class f)) [
      | inl k ↦ (let bounds = kept_bounds class f k in
          subst (λ v. has (part sides f) v ≡ true) (sym (kept_same f less (or_right (nat_eq f 1) (keeps class f) k)))
          (subst (λ s. has s (slice_index y f) ≡ true) (h.before.kept f bounds.0 bounds.1 k) (have_at new y f (subst (λ n. f < n) (sym h.before.twelve) less) in_it)))
      | inr n ↦ subst (λ v. has (part sides f) v ≡ true) (sym (other_same f less (ap (λ b. b || keeps class f) ne ∙ n)))
          (have_at sides z f (subst (λ n. f < n) (sym filled.twelve) less) filled.has_point)
    ]
  ]

  in_box : sides_have sides x ≡ true
  in_box = have_from sides x (filled.twelve ∙ sym (within_length tops x (mixed_within tops keep y z at filled.point_within) ∙ many)) (λ f lt. member f (subst (λ n. f < n) filled.twelve lt))

  port_kept : (f : ℕ) → (f ≡ 3) ⊎ (f ≡ 5) → has_ports (slice_index y 1) ≡ true → keep f ≡ true
  port_kept f (inl e) ports = subst (λ g. (nat_eq g 1 || keeps class g) ≡ true) (sym e) (ap (λ b. (b && true) || (asks_types class && false)) (no_ports class (slice_index y 1) proto_takes ports))
  port_kept f (inr e) ports = subst (λ g. (nat_eq g 1 || keeps class g) ≡ true) (sym e) (ap (λ b. (b && true) || (asks_types class && false)) (no_ports class (slice_index y 1) proto_takes ports))

  at_seven : (a : Bool) → ((a && false) || true) ≡ true
  at_seven true = refl
  at_seven false = refl

  same : LookSame x y
  same = record {
    proto = kept_same 1 (lit_le 2 12 refl) refl;
    dst = kept_same 2 (lit_le 3 12 refl) refl;
    src = kept_same 4 (lit_le 5 12 refl) refl;
    dport = λ ports. kept_same 3 (lit_le 4 12 refl) (port_kept 3 (inl refl) (subst (λ v. has_ports v ≡ true) (kept_same 1 (lit_le 2 12 refl) refl) ports));
    sport = λ ports. kept_same 5 (lit_le 6 12 refl) (port_kept 5 (inr refl) (subst (λ v. has_ports v ≡ true) (kept_same 1 (lit_le 2 12 refl) refl) ports));
    icmp = λ one. kept_same 7 (lit_le 8 12 refl)
        (ap (λ b. false || (false || ((asks_ports class && false) || (b && true)))) (no_types class (slice_index y 1) proto_takes (sym (kept_same 1 (lit_le 2 12 refl) refl) ∙ one)) ∙ at_seven (asks_ports class));
  }

-- each point of the part looks the same as one of the box
pub part_inside : (class : Class) (tops : List ℕ) (within : Plain Bool) (sides new : List (List Iv)) → length tops ≡ 12 → IsFilledBox tops sides → LooksInside tops within sides → IsPart class tops sides new
    → IsInside tops within new
part_inside class tops within sides new many filled looks h y at in_it =
    looks (x class tops sides new many filled h y at in_it) y (mixed_within tops (keep class tops sides new many filled h y at in_it) y filled.point at filled.point_within) at
    (in_box class tops sides new many filled h y at in_it) (same class tops sides new many filled h y at in_it)
