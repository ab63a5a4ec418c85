use Rattle.std.proofs.Common.{◌≡◌, drop}
use Rattle.fws_tree.specs.Held.{child_at}
use Rattle.fws_tree.proofs.held.child_of.Given as goal

abbrev pub invariant-loop-step : goal.invariant-loop-step
invariant-loop-step l = child_at (drop l.step-index l.steps) l.last l.x ≡ child_at l.steps l.last l.x
