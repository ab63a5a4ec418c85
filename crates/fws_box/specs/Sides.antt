-- The sides of a box: a set for each field.
use Rattle.std.specs.Prelude.{◌≢◌, ℕ, ◌+◌, ◌≤◌, Bool, true, false, ◌&&◌, List, [], ◌∷◌, map, All}
use Rattle.std.specs.Coded.{Unit-prop, le_prop}
use mathlib.Core.HLevel.{Π_prop, ×₃_prop}
use Rattle.fws_iv.specs.declared.iv.Iv.{Iv}
use Rattle.fws_iv.specs.Ivs.{has, IsRegular, IsRegularFrom}

-- each value of the point is a member of its side
abbrev pub sides_have : List (List Iv) → List ℕ → Bool
sides_have [] p = true
sides_have (s ∷ ss) [] = false
sides_have (s ∷ ss) (x ∷ p) = has s x && sides_have ss p

-- no side is empty
abbrev pub IsFilled : List (List Iv) → Type 0
IsFilled sides = All (λ s. s ≢ []) sides

-- the intervals of each side ascend, none is empty and no two touch
abbrev pub AreRegular : List (List Iv) → Type 0
AreRegular sides = All IsRegular sides

-- the whole range of each field
abbrev pub whole_sides : List ℕ → List (List Iv)
whole_sides tops = map (λ top. record { lo = 0; hi = top } ∷ []) tops

-- a point whose values are at most the tops of their fields
abbrev pub IsWithin : List ℕ → List ℕ → Type 0
IsWithin [] [] = Unit {0}
IsWithin [] (x ∷ p) = ⊥
IsWithin (top ∷ tops) [] = ⊥
IsWithin (top ∷ tops) (x ∷ p) = (x ≤ top) × IsWithin tops p

-- ---- facts that a box keeps have one proof

pub IsRegularFrom-prop : (from : ℕ) (s : List Iv) → IsProp (IsRegularFrom from s)
IsRegularFrom-prop from [] = Unit-prop
IsRegularFrom-prop from (x ∷ s) = ×₃_prop le_prop le_prop (IsRegularFrom-prop (x.hi + 2) s)

pub AreRegular-prop : (sides : List (List Iv)) → IsProp (AreRegular sides)
AreRegular-prop sides = Π_prop λ k. Π_prop λ d. Π_prop λ below. IsRegularFrom-prop 0 _
