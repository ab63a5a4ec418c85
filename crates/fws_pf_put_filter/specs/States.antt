-- States: each node of a tree has one, a node that decides alike on packets, but for destinations.
use Rattle.std.specs.Prelude.{◌≡◌, ◌⊎◌, ℕ, ◌≤◌, ◌<◌, Option, Some, List, length, slice_get, slice_index, All}
use Rattle.fws_net.specs.declared.outcome.End.{End}
use Rattle.fws_net.specs.declared.outcome.Outcome.{Outcome}
use Rattle.fws_net.specs.declared.outcome.Outcome.TheVariants.{Drop, Accept}
use Rattle.fws_net.specs.declared.outcome.Rewrite.{Rewrite}
use Rattle.fws_tree.specs.declared.node.Kid.{Kid}
use Rattle.fws_tree.specs.declared.node.Node.{Node}
use Rattle.fws_tree.specs.declared.node.Node.TheVariants.{Leaf, Cut}

-- the state of the node with this number
abbrev pub state_at : List ℕ → ℕ → ℕ
state_at states k = slice_index states k

-- the node with this number is a leaf with this outcome
abbrev pub IsLeafNode : List Outcome → List Node → ℕ → Outcome → Type 0
IsLeafNode leaves nodes k w = (i : ℕ) × (slice_get nodes k ≡ Some (Leaf i)) × (slice_get leaves i ≡ Some w)

-- both drop packets, or both accept them with the same source
abbrev pub AgreeInSource : Outcome → Outcome → Type 0
AgreeInSource Drop Drop = Unit {0}
AgreeInSource Drop (Accept w) = ⊥
AgreeInSource (Accept v) Drop = ⊥
AgreeInSource (Accept v) (Accept w) = v.src ≡ w.src

-- the node with this number is a leaf that accepts packets with this source
abbrev pub IsSourceState : List Outcome → List Node → ℕ → Option End → Type 0
IsSourceState leaves nodes k src = (v : Rewrite) × IsLeafNode leaves nodes k (Accept v) × (v.src ≡ src)

-- the states of the nodes: numbers of nodes that stand no later and are their own states
pub record AreStates (leaves : List Outcome) (nodes : List Node) (states : List ℕ) : Type 0 where
  pub size : length states ≡ length nodes
  pub low : (n : ℕ) → n < length nodes → state_at states n ≤ n
  pub own : (n : ℕ) → n < length nodes → state_at states (state_at states n) ≡ state_at states n
  -- that of a leaf is a leaf that agrees with it in the source
  pub leaf : (n : ℕ) (w : Outcome) → IsLeafNode leaves nodes n w → (v : Outcome) × IsLeafNode leaves nodes (state_at states n) v × AgreeInSource w v
  -- that of a cut is the cut, or the one state of all its kids
  pub cut : (n f : ℕ) (kids : List Kid) → slice_get nodes n ≡ Some (Cut f kids)
      → (state_at states n ≡ n) ⊎ All (λ kid. state_at states kid.node ≡ state_at states n) kids
