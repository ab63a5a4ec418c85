use Rattle.std.proofs.Common.{take, All}
use Rattle.fws_tree.specs.Spread.{Lacks, AreLacking}
use Rattle.fws_tree.proofs.canvas.Canvas.+holds.Given as goal

abbrev pub decreases-holds : goal.decreases-holds
decreases-holds l = l.at

abbrev pub invariant-loop-step : goal.invariant-loop-step
invariant-loop-step l = record {
  lacking : AreLacking l.self l.value l.lacking;
  steps : All (λ s. Lacks l.self l.value s.node) (take l.step-index l.steps);
}
