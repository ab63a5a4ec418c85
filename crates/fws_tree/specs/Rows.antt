-- Rows: a set for each field, and a leaf for the points that lie in all of them.
use Rattle.std.specs.Prelude.{ℕ, ◌+◌, List, [], ◌∷◌, ◌++◌, slice_set, if◌then◌else◌}
use Rattle.fws_iv.specs.declared.iv.Iv.{Iv}
use Rattle.fws_box.specs.Sides.{sides_have, whole_sides}
use Rattle.fws_tree.specs.declared.row.Row.{Row}
use Rattle.fws_tree.specs.Plain.{Plain, leaf, cut, Kids, none, kid}

-- the leaf of the first row that holds the point, else the rest
abbrev pub first_leaf : {L : Type 0} → List (Row L) → L → List ℕ → L
first_leaf [] rest p = rest
first_leaf (r ∷ rs) rest p = if sides_have r.sides p then r.leaf else first_leaf rs rest p

-- how many rows hold the point
abbrev pub row_hits : {L : Type 0} → List (Row L) → List ℕ → ℕ
row_hits [] p = 0
row_hits (r ∷ rs) p = (if sides_have r.sides p then 1 else 0) + row_hits rs p

-- the paths of a tree, depth first, kids in their order: a row for each leaf, with the sets on the way to it
abbrev mutual
  pub paths_below : {L : Type 0} → List (List Iv) → Plain L → List (Row L)
  paths_below sides (leaf a) = record { sides = sides; leaf = a } ∷ []
  paths_below sides (cut f ks) = paths_through sides f ks

  pub paths_through : {L : Type 0} → List (List Iv) → ℕ → Kids L → List (Row L)
  paths_through sides f none = []
  paths_through sides f (kid s t ks) = paths_below (slice_set sides f s) t ++ paths_through sides f ks

-- the paths of a tree over these tops
abbrev pub paths_of : {L : Type 0} → List ℕ → Plain L → List (Row L)
paths_of tops t = paths_below (whole_sides tops) t
