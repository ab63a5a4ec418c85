-- A reduced node that stands for a cell of a working store, over the fields from one on.
use Rattle.std.specs.Prelude.{◌≡◌, ℕ, ◌+◌, ◌<◌, ◌≤◌, Some, List, length, drop, slice_index, All}
use Rattle.std.specs.HashMap.{get}
use Rattle.fws_tree.specs.declared.store.Cell.{Cell}
use Rattle.fws_tree.specs.declared.node.Node.{Node}
use Rattle.fws_tree.specs.declared.join.Piece.{Piece}
use Rattle.fws_tree.specs.declared.memo.Memo.{Memo}
use Rattle.fws_tree.specs.Building.{AreInRow, end_of}
use Rattle.fws_tree.specs.Held.{held_at, pair_eq}
use Rattle.fws_tree.specs.Nodes.{tree_of}
use Rattle.fws_tree.specs.Plain.{IsReducedFrom, value_from}
use Rattle.fws_tree.specs.Subtrees.{IsSubtree}
use Rattle.fws_box.specs.Sides.{IsWithin}

-- the node has, at each point within the tops, the place of the value that the cell holds there
pub record IsShown (cells : List Cell) (tops places : List ℕ) (f at : ℕ) (ns : List Node) (r : ℕ) : Type 0 where
  pub inside : r < length ns
  pub reduced : IsReducedFrom f (drop f tops) (tree_of ns r)
  pub value : (p : List ℕ) → IsWithin tops p → value_from f (tree_of ns r) (drop f p) ≡ Some (slice_index places (held_at cells at p))

-- each entry is shown
abbrev pub AreShown : List Cell → List ℕ → List ℕ → List Node → Memo → Type 0
AreShown cells tops places ns memo = (f at r : ℕ) → get pair_eq memo.found (f, at) ≡ Some r → IsShown cells tops places f at ns r

-- each node that is new is a subtree of this one
abbrev pub AreAddedBelow : List Node → List Node → ℕ → Type 0
AreAddedBelow old new r = (k : ℕ) → length old ≤ k → k < length new → IsSubtree (tree_of new k) (tree_of new r)

-- pieces of a field's range, each with a cell that holds there what this one holds
pub record IsPieced (cells : List Cell) (at f top : ℕ) (ps : List (Piece ℕ)) : Type 0 where
  pub row : AreInRow 0 ps
  pub end : end_of 0 ps ≡ top + 1
  pub held : All (λ q. (q.held < length cells) × ((p : List ℕ) → q.lo ≤ slice_index p f → slice_index p f ≤ q.hi → held_at cells at p ≡ held_at cells q.held p)) ps
