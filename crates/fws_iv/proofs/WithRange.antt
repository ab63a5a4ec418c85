-- A set with further ranges.
use Rattle.std.proofs.Common.{◌≡◌, ℕ, ◌+◌, ◌<◌, ◌≤◌, sym, Bool, true, false, cond, ◌&&◌, ◌||◌, List, [], ◌∷◌, refl, ◌∙◌, ap, arith, nat_le, nat_lt, min, max, ltb-true, ltb-false}
use Rattle.std.proofs.lemmas.Bool.Decides.{nat_tests}
use Rattle.std.proofs.lemmas.List.Elements.{All-head, All-tail}
use Rattle.fws_iv.specs.declared.iv.Iv.{Iv}
use Rattle.fws_iv.specs.Ivs.{in_part, has, IsRegular, IsRegularFrom, AreRanges, with_range, with_ranges}
use Rattle.fws_iv.proofs.Parts.{sooner}
use Rattle.fws_iv.proofs.SameMembers.{ivs_same}

abbrev range : ℕ → ℕ → Iv
range lo hi = record { lo = lo; hi = hi }

-- what with_range makes of a first interval, by the two tests
abbrev placed : Bool → Bool → ℕ → ℕ → Iv → List Iv → List Iv
placed ahead behind lo hi x xs =
    cond ahead (range lo hi ∷ x ∷ xs) (cond behind (x ∷ with_range lo hi xs) (with_range (min lo x.lo) (max hi x.hi) xs))

placed-regular : (ahead behind : Bool) (from lo hi : ℕ) (x : Iv) (xs : List Iv) → nat_lt (hi + 1) x.lo ≡ ahead → nat_lt (x.hi + 1) lo ≡ behind
    → from ≤ lo → lo ≤ hi → IsRegularFrom from (x ∷ xs) → (x.hi + 2 ≤ lo → IsRegularFrom (x.hi + 2) (with_range lo hi xs))
    → IsRegularFrom from (with_range (min lo x.lo) (max hi x.hi) xs) → IsRegularFrom from (placed ahead behind lo hi x xs)
placed-regular true behind from lo hi x xs a b le o r later joined =
    let apart : hi + 1 < x.lo = ltb-true _ _ a in
    (le, o, (omega arith, r.1, r.2))
placed-regular false true from lo hi x xs a b le o r later joined =
    let apart : x.hi + 1 < lo = ltb-true _ _ b in
    (r.0, r.1, later (omega arith))
placed-regular false false from lo hi x xs a b le o r later joined = joined

pub with_range-regular : (from lo hi : ℕ) (s : List Iv) → from ≤ lo → lo ≤ hi → IsRegularFrom from s → IsRegularFrom from (with_range lo hi s)
with_range-regular from lo hi [] le o r = (le, o, tt)
with_range-regular from lo hi (x ∷ xs) le o r =
    let rest : IsRegularFrom from xs = sooner from (x.hi + 2) xs (omega (arith, r.0, r.1)) r.2 in
    let first : from ≤ min lo x.lo = omega (arith, r.0) in
    let order : min lo x.lo ≤ max hi x.hi = omega arith in
    placed-regular (nat_lt (hi + 1) x.lo) (nat_lt (x.hi + 1) lo) from lo hi x xs refl refl le o r
    (λ later. with_range-regular (x.hi + 2) lo hi xs later o r.2)
    (with_range-regular from (min lo x.lo) (max hi x.hi) xs first order rest)

or_comm : (a b : Bool) → (a || b) ≡ (b || a)
or_comm true true = refl
or_comm true false = refl
or_comm false true = refl
or_comm false false = refl

or_assoc : (a b c : Bool) → (a || (b || c)) ≡ ((a || b) || c)
or_assoc true b c = refl
or_assoc false b c = refl

or_last : (a b c : Bool) → (a || (b || c)) ≡ ((b || a) || c)
or_last true true c = refl
or_last true false c = refl
or_last false true c = refl
or_last false false c = refl

-- two intervals of which none ends before the other begins, and what both together have
bridged : (lo hi v : ℕ) (x : Iv) → lo ≤ hi → x.lo ≤ x.hi → x.lo ≤ hi + 1 → lo ≤ x.hi + 1
    → (nat_le (min lo x.lo) v && nat_le v (max hi x.hi)) ≡ (in_part x v || (nat_le lo v && nat_le v hi))
bridged lo hi v x o r a b = grind (arith, nat_tests)

placed-members : (ahead behind : Bool) (lo hi v : ℕ) (x : Iv) (xs : List Iv) → nat_lt (hi + 1) x.lo ≡ ahead → nat_lt (x.hi + 1) lo ≡ behind
    → lo ≤ hi → x.lo ≤ x.hi → has (with_range lo hi xs) v ≡ (has xs v || (nat_le lo v && nat_le v hi))
    → has (with_range (min lo x.lo) (max hi x.hi) xs) v ≡ (has xs v || (nat_le (min lo x.lo) v && nat_le v (max hi x.hi)))
    → has (placed ahead behind lo hi x xs) v ≡ (has (x ∷ xs) v || (nat_le lo v && nat_le v hi))
placed-members true behind lo hi v x xs a b o r later joined = or_comm (nat_le lo v && nat_le v hi) (has (x ∷ xs) v)
placed-members false true lo hi v x xs a b o r later joined =
    ap (λ t. in_part x v || t) later ∙ or_assoc (in_part x v) (has xs v) (nat_le lo v && nat_le v hi)
placed-members false false lo hi v x xs a b o r later joined =
    let near : x.lo ≤ hi + 1 = ltb-false _ _ a in
    let far : lo ≤ x.hi + 1 = ltb-false _ _ b in
    joined ∙ ap (λ t. has xs v || t) (bridged lo hi v x o r near far) ∙ or_last (has xs v) (in_part x v) (nat_le lo v && nat_le v hi)

pub with_range-members : (from lo hi : ℕ) (s : List Iv) → lo ≤ hi → IsRegularFrom from s → (v : ℕ) → has (with_range lo hi s) v ≡ (has s v || (nat_le lo v && nat_le v hi))
with_range-members from lo hi [] o r v = or_comm (nat_le lo v && nat_le v hi) false
with_range-members from lo hi (x ∷ xs) o r v =
    let order : min lo x.lo ≤ max hi x.hi = omega arith in
    placed-members (nat_lt (hi + 1) x.lo) (nat_lt (x.hi + 1) lo) lo hi v x xs refl refl o r.1
    (with_range-members (x.hi + 2) lo hi xs o r.2 v) (with_range-members (x.hi + 2) (min lo x.lo) (max hi x.hi) xs order r.2 v)

-- a regular list with those members is that set
pub same_with_range : (lo hi : ℕ) (s t : List Iv) → lo ≤ hi → IsRegular s → IsRegular t → ((v : ℕ) → has t v ≡ (has s v || has (range lo hi ∷ []) v)) → t ≡ with_range lo hi s
same_with_range lo hi s t o r q h =
    ivs_same 0 0 t (with_range lo hi s) q (with_range-regular 0 lo hi s (omega arith) o r)
    (λ v. h v ∙ ap (λ b. has s v || b) (or_comm (nat_le lo v && nat_le v hi) false) ∙ sym (with_range-members 0 lo hi s o r v))

pub with_ranges-regular : (s ranges : List Iv) → AreRanges ranges → IsRegular s → IsRegular (with_ranges s ranges)
with_ranges-regular s [] o r = r
with_ranges-regular s (x ∷ xs) o r =
    let first : x.lo ≤ x.hi = All-head (λ y. y.lo ≤ y.hi) x xs o in
    with_ranges-regular (with_range x.lo x.hi s) xs (All-tail (λ y. y.lo ≤ y.hi) x xs o) (with_range-regular 0 x.lo x.hi s (omega arith) first r)

or_right_false : (b : Bool) → (b || false) ≡ b
or_right_false true = refl
or_right_false false = refl

pub with_ranges-members : (s ranges : List Iv) → AreRanges ranges → IsRegular s → (v : ℕ) → has (with_ranges s ranges) v ≡ (has s v || has ranges v)
with_ranges-members s [] o r v = sym (or_right_false (has s v))
with_ranges-members s (x ∷ xs) o r v =
    let first : x.lo ≤ x.hi = All-head (λ y. y.lo ≤ y.hi) x xs o in
    let next : IsRegular (with_range x.lo x.hi s) = with_range-regular 0 x.lo x.hi s (omega arith) first r in
    with_ranges-members (with_range x.lo x.hi s) xs (All-tail (λ y. y.lo ≤ y.hi) x xs o) next v
    ∙ ap (λ b. b || has xs v) (with_range-members 0 x.lo x.hi s first r v)
    ∙ sym (or_assoc (has s v) (in_part x v) (has xs v))

-- a regular list with the members of the ranges is what they make from the empty set on
pub same_with_ranges : (ranges t : List Iv) → AreRanges ranges → IsRegular t → ((v : ℕ) → has t v ≡ has ranges v) → t ≡ with_ranges [] ranges
same_with_ranges ranges t o q h =
    ivs_same 0 0 t (with_ranges [] ranges) q (with_ranges-regular [] ranges o tt)
    (λ v. h v ∙ sym (with_ranges-members [] ranges o tt v))
