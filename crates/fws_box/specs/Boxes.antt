-- Boxes that hold a point.
use Rattle.std.specs.Prelude.{ℕ, ◌+◌, List, [], ◌∷◌, map, if◌then◌else◌}
use Rattle.fws_iv.specs.declared.iv.Iv.{Iv}
use Rattle.fws_box.specs.declared.pbox.PBox.{PBox}
use Rattle.fws_box.specs.Sides.{sides_have}

-- the sets of a box, one for each field
abbrev pub sides_of : PBox → List (List Iv)
sides_of b = map (λ s. s.now) b.sides

-- how many boxes hold the point
abbrev pub box_hits : List PBox → List ℕ → ℕ
box_hits [] p = 0
box_hits (b ∷ bs) p = (if sides_have (sides_of b) p then 1 else 0) + box_hits bs p
