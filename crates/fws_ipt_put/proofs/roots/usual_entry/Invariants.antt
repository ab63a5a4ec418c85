use Rattle.std.proofs.Common.{◌≤◌}
use Rattle.fws_ipt_put.proofs.roots.usual_entry.Given as goal

abbrev pub invariant-loop-entry : goal.invariant-loop-entry
invariant-loop-entry l = (1 ≤ l.usual) × (l.usual ≤ l.last)
