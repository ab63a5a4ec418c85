use Rattle.std.proofs.Common.{◌+◌, ◌≤◌, get_or, arith}
use Rattle.fws_tree.specs.declared.store.Step.{Step}
use Rattle.fws_tree.proofs.Spreading.{grows-then, walked-more, walked-all}
use Rattle.fws_tree.proofs.canvas.Canvas.add_steps.Goals as goal

pub loop-step-preserved : goal.loop-step-preserved
loop-step-preserved c =
    let d : Step = record { hi = 0; node = 0 } in
    let next : c.saturating_add-lo.result ≤ (get_or c.args.steps.now c.loop-step.step-index d).hi + 1 = omega arith in
    record {
      lacking = c.in_ok-add_held.ensures.lacking;
      ranges = c.in_ok-add_held.ensures.ranges;
      grown = grows-then c.args.ranges.now.items c.loop-step.ranges.items c.add_held.new.ranges.items c.loop-step.invariant.grown c.in_ok-add_held.ensures.grown;
      walked = walked-more c.args.self.now c.args.value c.args.top c.loop-step.step-index c.args.last c.loop-step.lo c.saturating_add-lo.result d c.args.steps.now c.loop-step.ranges.items c.add_held.new.ranges.items
          c.loop-step-test.true c.in_ok-add_held.ensures.grown next (λ x p from to. c.in_ok-add_held.ensures.held x p from (omega arith)) c.loop-step.invariant.walked;
    }

pub returns-clause-held : goal.returns-clause-held
returns-clause-held c = walked-all c.args.self.now c.args.value c.args.top c.loop-step.step-index c.args.last c.loop-step.lo c.args.steps.now c.loop-step.ranges.items c.add_held-2.new.ranges.items c.loop-step-test.false
    c.in_ok-add_held-2.ensures.grown c.in_ok-add_held-2.ensures.held c.loop-step.invariant.walked
