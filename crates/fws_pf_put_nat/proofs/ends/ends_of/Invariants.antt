use Rattle.std.proofs.Common.{◌≡◌, ℕ, Some, length, slice_get}
use Rattle.fws_tree.specs.Shared.{subtree_of}
use Rattle.fws_pf_put_nat.specs.declared.ends.Ends.{Ends}
use Rattle.fws_pf_put_nat.specs.Ends.{IsAccepted, Tells}
use Rattle.fws_pf_put_nat.proofs.ends.ends_of.Given as goal

abbrev pub invariant-loop-node : goal.invariant-loop-node
invariant-loop-node l =
    (length l.ends.items ≡ l.node-index) × ((k : ℕ) (e : Ends) → slice_get l.ends.items k ≡ Some e → Tells l.outward (IsAccepted (subtree_of l.leaves l.nodes k)) e)
