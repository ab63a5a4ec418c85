-- What holds of the parts of a tree as the code keeps it.
use Rattle.std.specs.Prelude.{◌≡◌, ℕ, ◌-◌, ◌<◌, List, length}
use Rattle.fws_tree.specs.declared.node.Node.{Node}
use Rattle.fws_tree.specs.Plain.{Plain, leaf, cut, Kids, none, kid}
use Rattle.fws_tree.specs.Shared.{IsShared, subtree_of}

-- each leaf holds a number below n
abbrev mutual
  pub AreLeavesBelow : ℕ → Plain ℕ → Type 0
  AreLeavesBelow n (leaf k) = k < n
  AreLeavesBelow n (cut f ks) = AreKidLeavesBelow n ks

  pub AreKidLeavesBelow : ℕ → Kids ℕ → Type 0
  AreKidLeavesBelow n none = Unit {0}
  AreKidLeavesBelow n (kid s t ks) = AreLeavesBelow n t × AreKidLeavesBelow n ks

-- twelve tops, and nodes and leaves that stand for the last node's tree and nothing else
pub record IsKept (L : Type 0) (tops : List ℕ) (leaves : List L) (nodes : List Node) : Type 0 where
  pub twelve : length tops ≡ 12
  pub shared : IsShared tops (subtree_of leaves nodes (length nodes - 1)) leaves nodes
