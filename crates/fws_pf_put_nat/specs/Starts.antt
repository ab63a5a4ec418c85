-- Where packets begin that meet a list.
use Rattle.std.specs.Prelude.{◌≡◌, ◌≢◌, ℕ, ◌-◌, Bool, true, false, Some, List, length, slice_get}
use Rattle.std.specs.List.{list_any}
use Rattle.fws_iv.specs.Ivs.{has}
use Rattle.fws_tree.specs.declared.node.Kid.{Kid}
use Rattle.fws_tree.specs.declared.node.Node.{Node}
use Rattle.fws_tree.specs.declared.node.Node.TheVariants.{Leaf, Cut}

-- the node of the kid that has the host's own packets
pub record IsHostKid (kids : List Kid) (n : ℕ) : Type 0 where
  pub place : ℕ
  pub kid : Kid
  pub there : slice_get kids place ≡ Some kid
  pub node : kid.node ≡ n
  pub host : has kid.set 0 ≡ true

-- on the out pass packets begin at the kid of the host where the last node cuts the entry; else they begin at the last node
pub record IsStart (nodes : List Node) (outward : Bool) (n : ℕ) : Type 0 where
  pub whole : outward ≡ false → n ≡ length nodes - 1
  pub leaf : (k : ℕ) → slice_get nodes (length nodes - 1) ≡ Some (Leaf k) → n ≡ length nodes - 1
  pub later : (f : ℕ) (kids : List Kid) → slice_get nodes (length nodes - 1) ≡ Some (Cut f kids) → f ≢ 0 → n ≡ length nodes - 1
  pub host : (kids : List Kid) → outward ≡ true → slice_get nodes (length nodes - 1) ≡ Some (Cut 0 kids) → list_any (λ kid. has kid.set 0) kids ≡ true
      → IsHostKid kids n
