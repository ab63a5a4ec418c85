-- Points that agree in all fields but some, and trees that are true at them.
use Rattle.std.proofs.Common.{◌≡◌, ℕ, zero, suc, ◌^◌, ◌<◌, ◌≤◌, Bool, true, false, ◌&&◌, not, Option, Some, None, List, [], ◌∷◌, inl, inr, refl, sym, ◌∙◌, ap, arith, length, get_or, subst, IsTrue, MatchOption}
use Rattle.std.proofs.lemmas.Bool.{and_left, and_parts, and_from, cases_lt, false≢true, le-leb, le-ltb, leb-true, or_cases, or_left}
use Rattle.std.proofs.lemmas.List.{get_or_past}
use Rattle.std.specs.Prelude.{◌↔◌, bit_and, nat_eq, nat_le, nat_lt}
use Rattle.fws_iv.specs.declared.iv.Iv.{Iv}
use Rattle.fws_iv.specs.Ivs.{has}
use Rattle.fws_box.specs.Sides.{IsWithin, sides_have}
use Rattle.fws_tree.specs.Changed.{is_free, Agree, IsTrueSomewhere}
use Rattle.fws_tree.specs.Plain.{Plain, value}
use Rattle.fws_place.specs.Apart.{near_side, IsFirstNear, NoneTrueNear}
use Rattle.fws_place.specs.Found.{IsTrueAt, IsTrueNowhere}
use Rattle.fws_place.proofs.PairPoints.{within_length, within_top}
use Rattle.fws_place.proofs.Viewing.{same_told}

-- Points

pub near_back : (fields : ℕ) (p q : List ℕ) → Agree fields p q → Agree fields q p
near_back fields p q near = λ f fixed. sym (near f fixed)

-- Sides

-- all sides have the point where each has its value
sides_all : (sides : List (List Iv)) (q : List ℕ) → length sides ≡ length q → ((j : ℕ) → j < length q → has (get_or sides j []) (get_or q j 0) ≡ true) → sides_have sides q ≡ true
sides_all [] q e each = refl
sides_all (s ∷ sides) [] e each = absurd (omega arith)
sides_all (s ∷ sides) (x ∷ q) e each =
    and_from (has s x) (sides_have sides q) (each 0 (omega arith)) (sides_all sides q (omega arith) (λ j lt. each (suc j) (omega arith)))

sides_each : (sides : List (List Iv)) (q : List ℕ) → length sides ≡ length q → sides_have sides q ≡ true → (j : ℕ) → j < length q → has (get_or sides j []) (get_or q j 0) ≡ true
sides_each [] [] e all j lt = absurd (omega arith)
sides_each [] (x ∷ q) e all j lt = absurd (omega arith)
sides_each (s ∷ sides) [] e all j lt = absurd (omega arith)
sides_each (s ∷ sides) (x ∷ q) e all zero lt = (and_parts (has s x) (sides_have sides q) all).0
sides_each (s ∷ sides) (x ∷ q) e all (suc j) lt = sides_each sides q (omega arith) (and_parts (has s x) (sides_have sides q) all).1 j (omega arith)

-- a side that keeps a point near has the values up to the top, or the point's alone
side_has : (free : Bool) (top x v : ℕ) → v ≤ top → (free ≡ false → x ≡ v) → has (near_side free top x) v ≡ true
side_has true top x v le same = or_left _ _ (and_from (nat_le 0 v) (nat_le v top) (le-leb 0 v (omega arith)) (le-leb v top le))
side_has false top x v le same =
    let e : x ≡ v = same refl in
    or_left _ _ (and_from (nat_le x v) (nat_le v x) (le-leb x v (omega arith)) (le-leb v x (omega arith)))

side_gives : (top x v : ℕ) → has (near_side false top x) v ≡ true → x ≡ v
side_gives top x v e = elim (or_cases (nat_le x v && nat_le v x) false e) [
  | inl both ↦
      let parts = and_parts (nat_le x v) (nat_le v x) both in
      let low : x ≤ v = leb-true x v parts.0 in
      let high : v ≤ x = leb-true v x parts.1 in
      omega (arith, low, high)
  | inr never ↦ absurd (false≢true never)
]

-- the sides of the points that agree with one
abbrev pub AreNearSides : ℕ → List ℕ → List ℕ → ℕ → List (List Iv) → Type 0
AreNearSides fields tops p k sides = (j : ℕ) → j < k → get_or sides j [] ≡ near_side (is_free fields j) (get_or tops j 0) (get_or p j 0)

not_free : (fields f : ℕ) → 12 ≤ f → is_free fields f ≡ false
not_free fields f le = and_left (nat_lt f 12) (not (nat_eq (bit_and fields (2 ^ f)) 0)) (le-ltb f 12 le)

pub near_have : (fields : ℕ) (tops p : List ℕ) (sides : List (List Iv)) → length tops ≡ 12 → length sides ≡ 12 → AreNearSides fields tops p 12 sides → IsWithin tops p
    → (q : List ℕ) → IsWithin tops q → (sides_have sides q ≡ true) ↔ Agree fields p q
near_have fields tops p sides twelve many made wp q wq = (
  λ all f fixed. elim (cases_lt f 12) [
    | inl lt ↦
        let here : has (get_or sides f []) (get_or q f 0) ≡ true = sides_each sides q (many ∙ sym (within_length tops q wq ∙ twelve)) all f (omega (arith, lq)) in
        side_gives (get_or tops f 0) (get_or p f 0) (get_or q f 0)
        (ap (λ b. has (near_side b (get_or tops f 0) (get_or p f 0)) (get_or q f 0)) (sym fixed) ∙ ap (λ s. has s (get_or q f 0)) (sym (made f lt)) ∙ here)
    | inr ge ↦ get_or_past p f 0 (omega (arith, lp, ge)) ∙ sym (get_or_past q f 0 (omega (arith, lq, ge)))
  ],
  λ near. sides_all sides q (many ∙ sym lq) (λ j lt.
      let low : j < 12 = omega (arith, lq, lt) in
      ap (λ s. has s (get_or q j 0)) (made j low)
      ∙ side_has (is_free fields j) (get_or tops j 0) (get_or p j 0) (get_or q j 0) (within_top tops q j wq (omega (arith, twelve, low))) (near j)),
)
  where
    lp : length p ≡ 12
    lp = within_length tops p wp ∙ twelve

    lq : length q ≡ 12
    lq = within_length tops q wq ∙ twelve

-- Trees

-- what a projection says
abbrev pub TellsNear : ℕ → List ℕ → Plain Bool → Plain Bool → Type 0
TellsNear fields tops u s = (p : List ℕ) → IsWithin tops p → (b : Bool) × (value s p ≡ Some b) × (IsTrue b ↔ IsTrueSomewhere tops fields u p)

-- and a tree that is true where two are
abbrev pub IsBoth : List ℕ → Plain Bool → Plain Bool → Plain Bool → Type 0
IsBoth tops t s both = (p : List ℕ) → IsWithin tops p → (a : Bool) × (b : Bool) × (value t p ≡ Some a) × (value s p ≡ Some b) × (value both p ≡ Some (a && b))

-- it is true at the first of two points that agree
pub first_both : (fields : ℕ) (tops : List ℕ) (t u s both : Plain Bool) → TellsNear fields tops u s → IsBoth tops t s both → (p : List ℕ) → IsWithin tops p
    → (value both p ≡ Some true) ↔ IsFirstNear fields tops t u p
first_both fields tops t u s both near at p w =
    let two = at p w in
    let told = near p w in (
      (λ e. let parts = and_parts two.0 two.1 (same_told (value both p) (two.0 && two.1) true two.4 e) in
          ((w, two.2 ∙ ap Some parts.0), told.2.0 (same_told (value s p) told.0 two.1 told.1 two.3 ∙ parts.1))),
      λ first. two.4
          ∙ ap Some (and_from two.0 two.1 (same_told (value t p) two.0 true two.2 first.0.1) (same_told (value s p) two.1 told.0 two.3 told.1 ∙ told.2.1 first.1)),
    )

-- what is found in such a tree
pub first_found : (fields : ℕ) (tops others : List ℕ) (t u both : Plain Bool) → others ≡ tops
    → ((p : List ℕ) → IsWithin tops p → (value both p ≡ Some true) ↔ IsFirstNear fields tops t u p) → (found : Option (List ℕ))
    → MatchOption found (IsTrueNowhere others both) (IsTrueAt others both) → MatchOption found (NoneTrueNear fields tops t u) (IsFirstNear fields tops t u)
first_found fields tops others t u both e at None none = λ p q h.
    none p (subst (λ ts. IsWithin ts p) (sym e) h.first.0, (at p h.first.0).1 (h.first, (q, h.second.0, h.near, h.second.1)))
first_found fields tops others t u both e at (Some p) here = (at p (subst (λ ts. IsWithin ts p) e here.0)).0 here.1
