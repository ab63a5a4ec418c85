-- Laws of the nodes of a tree.
use Rattle.std.specs.Prelude.{◌≡◌, ℕ, ◌<◌, Some, List, slice_get}
use Rattle.std.specs.List.{AllByRecursion}
use Rattle.fws_tree.specs.declared.node.Kid.{Kid}
use Rattle.fws_tree.specs.declared.node.Node.{Node}
use Rattle.fws_tree.specs.declared.node.Node.TheVariants.{Leaf, Cut}
use Rattle.fws_tree.specs.Nodes.{AreOrderedFrom}
use Rattle.fws_tree.specs.Plain.{Plain, leaf}
use Rattle.fws_tree.specs.Shared.{subtree_of, IsShared}
use Rattle.fws_tree_seen.specs.Cuts.{IsCutNode}

-- the kids of a node stand before it
abbrev pub KidsStandBefore : Type 0
KidsStandBefore = (nodes : List Node) (at f : ℕ) (kids : List Kid) → AreOrderedFrom 0 nodes → slice_get nodes at ≡ Some (Cut f kids) → AllByRecursion (λ kid. kid.node < at) kids

-- the tree of a leaf's node is the leaf
abbrev pub LeafNodesAreLeaves : Type 0 → Type 0
LeafNodesAreLeaves L = (tops : List ℕ) (t : Plain L) (leaves : List L) (nodes : List Node) (at n : ℕ) → IsShared tops t leaves nodes → slice_get nodes at ≡ Some (Leaf n)
    → (a : L) × (slice_get leaves n ≡ Some a) × (subtree_of leaves nodes at ≡ leaf a)

-- the tree of a cut's node is the cut over the trees of its kids, whose sets part the values of its field
abbrev pub CutNodesPartValues : Type 0 → Type 0
CutNodesPartValues L = (tops : List ℕ) (t : Plain L) (leaves : List L) (nodes : List Node) (at f : ℕ) (kids : List Kid) → IsShared tops t leaves nodes
    → slice_get nodes at ≡ Some (Cut f kids) → IsCutNode tops leaves nodes at f kids
