use Rattle.std.proofs.Common.{take, All}
use Rattle.fws_iv.specs.Ivs.{AreRanges}
use Rattle.fws_tree.specs.Spread.{AreLacking, HasSpread, AreDone, Grows}
use Rattle.fws_tree.proofs.canvas.Canvas.+add_spread.Given as goal

abbrev pub decreases-add_spread : goal.decreases-add_spread
decreases-add_spread l = l.at

abbrev pub invariant-loop-step : goal.invariant-loop-step
invariant-loop-step l = record {
  lacking : AreLacking l.self l.value l.lacking;
  ranges : AreRanges l.ranges.items;
  grown : Grows l.fn.ranges.items l.ranges.items;
  done : AreDone l.self l.field l.value l.done l.ranges.items;
  steps : All (λ s. HasSpread l.self l.field l.value s.node l.ranges.items) (take l.step-index l.steps);
}
