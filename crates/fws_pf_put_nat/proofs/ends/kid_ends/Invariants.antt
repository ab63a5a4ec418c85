use Rattle.std.proofs.Common.{◌≡◌, ℕ, Bool, Some, take, slice_get}
use Rattle.fws_net.specs.declared.outcome.Outcome.{Outcome}
use Rattle.fws_tree.specs.Plain.{Plain}
use Rattle.fws_tree_seen.specs.Cuts.{kids_of}
use Rattle.fws_pf_put_nat.specs.declared.ends.Ends.{Ends}
use Rattle.fws_pf_put_nat.specs.Ends.{IsAccepted, IsKidAccepted, Tells}
use Rattle.fws_pf_put_nat.proofs.ends.kid_ends.Given as goal

abbrev pub invariant-loop-kid : goal.invariant-loop-kid
invariant-loop-kid l =
    (outward : Bool) (tree : ℕ → Plain Outcome) → ((i : ℕ) (e : Ends) → slice_get l.ends i ≡ Some e → Tells outward (IsAccepted (tree i)) e)
    → Tells outward (IsKidAccepted (kids_of tree (take l.kid-index l.kids))) l.all
