-- The subtrees of a tree.
use Rattle.std.specs.Prelude.{◌≡◌, ◌⊎◌, ◌↔◌, List, Contains}
use Rattle.fws_tree.specs.Building.{AreDifferent}
use Rattle.fws_tree.specs.Plain.{Plain, leaf, cut, Kids, none, kid}

-- the tree itself, or a subtree of one of its kids
abbrev mutual
  pub IsSubtree : {L : Type 0} → Plain L → Plain L → Type 0
  IsSubtree u (leaf a) = u ≡ leaf a
  IsSubtree u (cut f ks) = (u ≡ cut f ks) ⊎ IsKidSubtree u ks

  pub IsKidSubtree : {L : Type 0} → Plain L → Kids L → Type 0
  IsKidSubtree u none = ⊥
  IsKidSubtree u (kid s t ks) = IsSubtree u t ⊎ IsKidSubtree u ks

-- the subtrees of a tree, each once
pub record AreSubtrees {L : Type 0} (t : Plain L) (ts : List (Plain L)) : Type 0 where
  pub different : AreDifferent ts
  pub all : (u : Plain L) → Contains ts u ↔ IsSubtree u t
