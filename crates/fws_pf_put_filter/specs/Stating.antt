-- How the states of nodes are found, one after another.
use Rattle.std.specs.Prelude.{◌≡◌, ◌⊎◌, ℕ, ◌≤◌, ◌<◌, Some, None, List, [], ◌∷◌, ◌++◌, length, slice_get, slice_index_or, All}
use Rattle.fws_net.specs.declared.outcome.Outcome.{Outcome}
use Rattle.fws_net.specs.declared.outcome.Outcome.TheVariants.{Drop, Accept}
use Rattle.fws_tree.specs.declared.node.Kid.{Kid}
use Rattle.fws_tree.specs.declared.node.Node.{Node}
use Rattle.fws_tree.specs.declared.node.Node.TheVariants.{Leaf, Cut}
use Rattle.fws_pf_put_filter.specs.declared.states.OwnLeaf.{OwnLeaf}
use Rattle.fws_pf_put_filter.specs.States.{state_at, AgreeInSource, IsLeafNode}

-- the outcome without its destination
abbrev pub stripped : Outcome → Outcome
stripped Drop = Drop
stripped (Accept v) = Accept (record { src = v.src; dst = None })

-- the node of a leaf is its own state
pub record IsOwnLeaf (leaves : List Outcome) (nodes : List Node) (states : List ℕ) (o : OwnLeaf) : Type 0 where
  pub inside : o.node < length states
  pub own : state_at states o.node ≡ o.node
  pub outcome : Outcome
  pub leaf : IsLeafNode leaves nodes o.node outcome
  pub is : stripped outcome ≡ o.outcome

-- one of the leaves has the node and the outcome
abbrev pub IsFound : List OwnLeaf → Outcome → ℕ → Type 0
IsFound own outcome n = (i : ℕ) × (o : OwnLeaf) × (slice_get own i ≡ Some o) × (o.outcome ≡ outcome) × (o.node ≡ n)

-- the state of a leaf is one that was met before, or its own, which is noted then
abbrev pub IsLeafState : Outcome → ℕ → List OwnLeaf → List OwnLeaf → ℕ → Type 0
IsLeafState w k old new s =
    ((new ≡ old) × IsFound old (stripped w) s) ⊎ ((new ≡ old ++ record { node = k; outcome = stripped w } ∷ []) × (s ≡ k))

-- the state of a cut is its own, or that of all its kids
abbrev pub IsCutState : List ℕ → List Kid → ℕ → ℕ → Type 0
IsCutState states kids k s = (s ≡ k) ⊎ ((0 < length kids) × All (λ kid. state_at states kid.node ≡ s) kids)

-- the state of the next node
abbrev pub IsNext : List Outcome → List ℕ → Node → ℕ → List OwnLeaf → List OwnLeaf → ℕ → Type 0
IsNext leaves states (Leaf i) k old new s = IsLeafState (slice_index_or leaves i Drop) k old new s
IsNext leaves states (Cut f kids) k old new s = (new ≡ old) × IsCutState states kids k s

-- the states of the nodes before a number, and the leaves among them that are their own states
pub record AreStatesBefore (leaves : List Outcome) (nodes : List Node) (k : ℕ) (states : List ℕ) (owned : List OwnLeaf) : Type 0 where
  pub size : length states ≡ k
  pub low : (n : ℕ) → n < k → state_at states n ≤ n
  pub own : (n : ℕ) → n < k → state_at states (state_at states n) ≡ state_at states n
  pub leaf : (n : ℕ) (w : Outcome) → n < k → IsLeafNode leaves nodes n w → (v : Outcome) × IsLeafNode leaves nodes (state_at states n) v × AgreeInSource w v
  pub cut : (n f : ℕ) (kids : List Kid) → n < k → slice_get nodes n ≡ Some (Cut f kids)
      → (state_at states n ≡ n) ⊎ All (λ kid. state_at states kid.node ≡ state_at states n) kids
  pub owns : All (IsOwnLeaf leaves nodes states) owned
