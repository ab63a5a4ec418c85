-- The labels of rules by their places.
use Rattle.std.specs.Prelude.{ℕ, List, ◌∷◌, ◌++◌, map}
use Rattle.std.specs.Fmt.{decimal}
use Rattle.std.specs.List.{range_with_len}

-- a front and a place
abbrev pub place_label : List ℕ → ℕ → List ℕ
place_label front place = front ++ 32 ∷ decimal place

-- a front and each of so many places, counted from 1
abbrev pub place_labels : List ℕ → ℕ → List (List ℕ)
place_labels front count = map (place_label front) (range_with_len 1 count)
