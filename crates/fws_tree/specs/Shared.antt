-- A tree as numbered nodes, of which each stands for one of its subtrees.
use Rattle.std.specs.Prelude.{◌≡◌, ℕ, ◌-◌, ◌<◌, Some, List, length, slice_get}
use Rattle.fws_tree.specs.declared.node.Node.{Node}
use Rattle.fws_tree.specs.declared.node.Node.TheVariants.{Leaf}
use Rattle.fws_tree.specs.Plain.{Plain, IsReduced}
use Rattle.fws_tree.specs.Nodes.{tree_of, AreOrderedFrom, relabel}
use Rattle.fws_tree.specs.Subtrees.{IsSubtree}

-- the tree of a node, with the leaves at the places that it names
abbrev pub subtree_of : {L : Type 0} → List L → List Node → ℕ → Plain L
subtree_of leaves nodes k = relabel leaves (tree_of nodes k)

-- nodes and leaves that stand for a tree over these tops
pub record IsShared {L : Type 0} (tops : List ℕ) (t : Plain L) (leaves : List L) (nodes : List Node) : Type 0 where
  -- each node names earlier ones alone
  pub ordered : AreOrderedFrom 0 nodes
  -- there is a node, and the last one's tree is the whole
  pub some : 0 < length nodes
  pub last : t ≡ subtree_of leaves nodes (length nodes - 1)
  -- each node's tree is reduced, is a subtree, and is no other node's
  pub reduced : (k : ℕ) → k < length nodes → IsReduced tops (subtree_of leaves nodes k)
  pub within : (k : ℕ) → k < length nodes → IsSubtree (subtree_of leaves nodes k) t
  pub different : (j k : ℕ) → j < length nodes → k < length nodes → subtree_of leaves nodes j ≡ subtree_of leaves nodes k → j ≡ k
  -- the places that nodes name are those of the leaves
  pub named : (k n : ℕ) → slice_get nodes k ≡ Some (Leaf n) → n < length leaves
  pub used : (n : ℕ) → n < length leaves → (k : ℕ) × (slice_get nodes k ≡ Some (Leaf n))
