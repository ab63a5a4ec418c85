use Rattle.std.proofs.Common.{drop}
use Rattle.fws_iv.specs.Ivs.{AreRanges}
use Rattle.fws_tree.specs.Spread.{AreLacking, Grows}
use Rattle.fws_tree.proofs.Spreading.{IsWalked}
use Rattle.fws_tree.proofs.canvas.Canvas.add_steps.Given as goal

abbrev pub invariant-loop-step : goal.invariant-loop-step
invariant-loop-step l = record {
  lacking : AreLacking l.self l.value l.lacking;
  ranges : AreRanges l.ranges.items;
  grown : Grows l.fn.ranges.items l.ranges.items;
  walked : IsWalked l.self l.value l.top l.steps (drop l.step-index l.steps) l.last l.lo l.ranges.items;
}
