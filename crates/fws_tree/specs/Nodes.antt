-- The tree that numbered nodes stand for: each names earlier nodes alone, and a leaf names a value by its place.
use Rattle.std.specs.Prelude.{ℕ, suc, ◌<◌, Option, Some, None, slice_get, List, [], ◌∷◌, ◌++◌, slice_index_or}
use Rattle.std.specs.List.{AllByRecursion}
use Rattle.fws_tree.specs.declared.node.Kid.{Kid}
use Rattle.fws_tree.specs.declared.node.Node.{Node}
use Rattle.fws_tree.specs.declared.node.Node.TheVariants.{Leaf, Cut}
use Rattle.fws_tree.specs.Plain.{Plain, leaf, cut, Kids, none, kid}

-- kids, after the trees of the nodes that they name
abbrev pub kids_over : List (Plain ℕ) → List Kid → Kids ℕ
kids_over trees [] = none
kids_over trees (k ∷ ks) = kid k.set (slice_index_or trees k.node (cut 0 none)) (kids_over trees ks)

-- the tree of a node, after those of the earlier ones
abbrev pub tree_over : List (Plain ℕ) → Node → Plain ℕ
tree_over trees (Leaf n) = leaf n
tree_over trees (Cut f ks) = cut f (kids_over trees ks)

-- the trees of nodes, after those of the earlier ones
abbrev pub trees_after : List (Plain ℕ) → List Node → List (Plain ℕ)
trees_after trees [] = trees
trees_after trees (n ∷ ns) = trees_after (trees ++ tree_over trees n ∷ []) ns

-- the tree of the node with this number
abbrev pub tree_of : List Node → ℕ → Plain ℕ
tree_of nodes root = slice_index_or (trees_after [] nodes) root (cut 0 none)

-- a node that names nodes below n alone
abbrev pub IsNodeBelow : ℕ → Node → Type 0
IsNodeBelow n (Leaf k) = Unit {0}
IsNodeBelow n (Cut f ks) = AllByRecursion (λ k. k.node < n) ks

-- each node names earlier ones alone
abbrev pub AreOrderedFrom : ℕ → List Node → Type 0
AreOrderedFrom n [] = Unit {0}
AreOrderedFrom n (x ∷ xs) = IsNodeBelow n x × AreOrderedFrom (suc n) xs

-- a leaf with the value at this place; a cut without kids where there is none
abbrev pub named_leaf : {L : Type 0} → Option L → Plain L
named_leaf None = cut 0 none
named_leaf (Some a) = leaf a

-- the tree with values in place of their places
abbrev mutual
  pub relabel : {L : Type 0} → List L → Plain ℕ → Plain L
  relabel leaves (leaf n) = named_leaf (slice_get leaves n)
  relabel leaves (cut f ks) = cut f (relabel_kids leaves ks)

  pub relabel_kids : {L : Type 0} → List L → Kids ℕ → Kids L
  relabel_kids leaves none = none
  relabel_kids leaves (kid s t ks) = kid s (relabel leaves t) (relabel_kids leaves ks)
