-- Sides of rows and their least points.
use Rattle.std.specs.Prelude.{◌≡◌, ℕ, ◌≤◌, true, List, [], ◌∷◌, map, unwrap_or}
use Rattle.fws_iv.specs.declared.iv.Iv.{Iv}
use Rattle.fws_iv.specs.Ivs.{has, least}

-- the least value of a side, 0 where there is none
abbrev pub least_of : List Iv → ℕ
least_of s = unwrap_or (least s) 0

-- the least value of each side
abbrev pub leasts : List (List Iv) → List ℕ
leasts sides = map least_of sides

-- the least value of each side is a member that isn't past the top of its field
abbrev pub AreSidesOf : List ℕ → List (List Iv) → Type 0
AreSidesOf [] [] = Unit {0}
AreSidesOf [] (s ∷ sides) = ⊥
AreSidesOf (top ∷ tops) [] = ⊥
AreSidesOf (top ∷ tops) (s ∷ sides) = (has s (least_of s) ≡ true) × (least_of s ≤ top) × AreSidesOf tops sides
