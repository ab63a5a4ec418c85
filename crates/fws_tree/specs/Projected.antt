-- Cells that say whether a node's tree is true at some point that agrees with the one at hand.
use Rattle.std.specs.Prelude.{◌≡◌, ◌⊎◌, ℕ, ◌<◌, Bool, true, Some, List, [], ◌∷◌, length, slice_index, All}
use Rattle.fws_box.specs.Sides.{IsWithin}
use Rattle.fws_tree.specs.Changed.{Agree}
use Rattle.fws_tree.specs.declared.node.Kid.{Kid}
use Rattle.fws_tree.specs.declared.node.Node.{Node}
use Rattle.fws_tree.specs.declared.store.Cell.{Cell}
use Rattle.fws_tree.specs.Held.{held_at, over_leaf}
use Rattle.fws_tree.specs.Loaded.{read}
use Rattle.fws_tree.specs.Plain.{Plain}
use Rattle.fws_tree.specs.Shared.{subtree_of}

-- the first number of the kids' nodes that isn't 0, after a number
abbrev pub any_of : (ℕ → ℕ) → ℕ → List Kid → ℕ
any_of v n [] = n
any_of v n (k ∷ ks) = any_of v (over_leaf n (v k.node)) ks

-- some point that agrees reads true
abbrev pub ReadsTrue : List ℕ → ℕ → Plain Bool → List ℕ → Type 0
ReadsTrue tops fields t p = (q : List ℕ) × IsWithin tops q × Agree fields p q × (read t q ≡ Some true)

-- a number that is 1 where there is such a point, and 0 where there is none
abbrev pub Tells : List ℕ → ℕ → Plain Bool → List ℕ → ℕ → Type 0
Tells tops fields t p n = ((n ≡ 1) × ReadsTrue tops fields t p) ⊎ ((n ≡ 0) × (ReadsTrue tops fields t p → ⊥))

-- cells of which each tells of its node
pub record AreProjected (tops : List ℕ) (fields : ℕ) (leaves : List Bool) (nodes : List Node) (cells : List Cell) (at : List ℕ) : Type 0 where
  pub below : All (λ c. c < length cells) at
  pub tells : (k : ℕ) → k < length at → (p : List ℕ) → IsWithin tops p → Tells tops fields (subtree_of leaves nodes k) p (held_at cells (slice_index at k) p)
