-- How many paths a tree has.
use Rattle.std.specs.Prelude.{◌≡◌, ℕ, ◌+◌, ◌<◌, nat_lt, if◌then◌else◌, List, [], ◌∷◌, length, slice_index}
use Rattle.fws_tree.specs.declared.node.Kid.{Kid}
use Rattle.fws_tree.specs.declared.node.Node.{Node}
use Rattle.fws_tree.specs.declared.node.Node.TheVariants.{Leaf, Cut}
use Rattle.fws_tree.specs.Plain.{Plain, leaf, cut, Kids, none, kid}
use Rattle.fws_tree.specs.Shared.{subtree_of}

-- one for each leaf
abbrev mutual
  pub path_count : {L : Type 0} → Plain L → ℕ
  path_count (leaf a) = 1
  path_count (cut f ks) = kid_path_count ks

  pub kid_path_count : {L : Type 0} → Kids L → ℕ
  kid_path_count none = 0
  kid_path_count (kid s t ks) = path_count t + kid_path_count ks

-- the sum of the counts at the nodes that kids name
abbrev pub kid_sum : List ℕ → List Kid → ℕ
kid_sum counts [] = 0
kid_sum counts (k ∷ ks) = slice_index counts k.node + kid_sum counts ks

-- the count of a node by those of earlier ones: 1 for a place that has a leaf
abbrev pub node_sum : ℕ → List ℕ → Node → ℕ
node_sum many counts (Leaf place) = if nat_lt place many then 1 else 0
node_sum many counts (Cut f ks) = kid_sum counts ks

-- the counts are those of the first nodes' trees
abbrev pub AreCounted : {L : Type 0} → List L → List Node → List ℕ → Type 0
AreCounted leaves nodes counts = (k : ℕ) → k < length counts → slice_index counts k ≡ path_count (subtree_of leaves nodes k)
