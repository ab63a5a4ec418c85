-- Marks: a label for the points that lie in all of its sides.
use Rattle.std.specs.Prelude.{ℕ, List, [], ◌∷◌, map, if◌then◌else◌}
use Rattle.fws_iv.specs.declared.iv.Iv.{Iv}
use Rattle.fws_box.specs.Sides.{sides_have}
use Rattle.fws_tree.specs.declared.mark.Mark.{Mark}

-- the sides of a mark
abbrev pub sides_of : Mark → List (List Iv)
sides_of m = map (λ s. s.now) m.sides

-- the label of the first mark whose sides have the point, else the rest
abbrev pub mark_at : List Mark → ℕ → List ℕ → ℕ
mark_at [] rest p = rest
mark_at (m ∷ ms) rest p = if sides_have (sides_of m) p then m.label else mark_at ms rest p
