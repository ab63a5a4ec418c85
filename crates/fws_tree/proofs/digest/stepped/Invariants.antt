use Rattle.std.proofs.Common.{◌≡◌, drop}
use Rattle.fws_tree.specs.Digest.{stepped}
use Rattle.fws_tree.proofs.digest.stepped.Given as goal

abbrev pub invariant-loop-step : goal.invariant-loop-step
invariant-loop-step l = stepped l.all (drop l.step-index l.steps) ≡ stepped l.sum l.steps
