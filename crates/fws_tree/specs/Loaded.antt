-- A tree's nodes as cells of a working store.
use Rattle.std.specs.Prelude.{◌≡◌, ℕ, ◌+◌, ◌-◌, ◌<◌, nat_eq, if◌then◌else◌, Option, Some, None, List, [], ◌∷◌, length, slice_index, slice_index_or, slice_get, All}
use Rattle.fws_iv.specs.Ivs.{has}
use Rattle.fws_box.specs.Sides.{IsWithin}
use Rattle.fws_tree.specs.declared.node.Kid.{Kid}
use Rattle.fws_tree.specs.declared.node.Node.{Node}
use Rattle.fws_tree.specs.declared.store.Cell.{Cell}
use Rattle.fws_tree.specs.Held.{held_at}
use Rattle.fws_tree.specs.Nodes.{tree_of}
use Rattle.fws_tree.specs.Plain.{Plain, leaf, cut, Kids, none, kid, value}
use Rattle.fws_tree.specs.Shared.{subtree_of}

-- the leaf that a point leads to, where each cut reads the field that it names
abbrev mutual
  pub read : {L : Type 0} → Plain L → List ℕ → Option L
  read (leaf a) p = Some a
  read (cut f ks) p = read_kids ks (slice_index p f) p

  pub read_kids : {L : Type 0} → Kids L → ℕ → List ℕ → Option L
  read_kids none x p = None
  read_kids (kid s t ks) x p = if has s x then read t p else read_kids ks x p

-- one more than the node of the first kid that has a value, 0 where none has
abbrev pub kid_number : List Kid → ℕ → ℕ
kid_number [] x = 0
kid_number (k ∷ ks) x = if has k.set x then k.node + 1 else kid_number ks x

-- the cell for a number that is one more than a place, and another one for 0
abbrev pub named_cell : List ℕ → ℕ → ℕ → ℕ
named_cell at rest n = if nat_eq n 0 then rest else slice_index_or at (n - 1) rest

-- each of these cells holds, at points within the tops, the value for the place that its node has there
pub record AreLoaded (tops : List ℕ) (nodes : List Node) (values : List ℕ) (cells : List Cell) (at : List ℕ) : Type 0 where
  pub below : All (λ c. c < length cells) at
  pub held : (k : ℕ) → k < length at → (p : List ℕ) → IsWithin tops p → (n : ℕ) → read (tree_of nodes k) p ≡ Some n → held_at cells (slice_index at k) p ≡ slice_index values n

-- the cell holds, at points within the tops, the value for the place that a node has there
abbrev pub HoldsNode : List ℕ → List Node → List ℕ → List Cell → ℕ → ℕ → Type 0
HoldsNode tops nodes values cells k cell = (p : List ℕ) → IsWithin tops p → (n : ℕ) → read (tree_of nodes k) p ≡ Some n → held_at cells cell p ≡ slice_index values n

-- the cell holds, at points within the tops, the value for the place of the leaf that the tree has there
abbrev pub IsLoaded : {L : Type 0} → List ℕ → List L → List Node → List ℕ → List Cell → ℕ → Type 0
IsLoaded tops leaves nodes values cells r = (p : List ℕ) → IsWithin tops p
    → (n : ℕ) × (value (subtree_of leaves nodes (length nodes - 1)) p ≡ slice_get leaves n) × (n < length leaves) × (held_at cells r p ≡ slice_index values n)
