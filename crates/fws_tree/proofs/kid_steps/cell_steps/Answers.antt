use Rattle.fws_tree.specs.declared.store.Step.{Step}
use Rattle.fws_tree.proofs.Loading.{named-next, named-all}
use Rattle.fws_tree.proofs.kid_steps.cell_steps.Goals as goal

pub loop-step-preserved : goal.loop-step-preserved
loop-step-preserved c = let d : Step = record { hi = 0; node = 0 } in record {
  value = λ x. named-next c.deref-step-items.result.now c.loop-step.step-index d c.loop-step.steps.items c.add_step.new.steps.items c.args.at.now c.args.rest c.named_cell.result c.args.cuts.now.last x c.loop-step-test.true
      c.in_ok-add_step.ensures.same c.named_cell.ensures.value (c.loop-step.invariant.value x);
  below = λ n all r. c.in_ok-add_step.ensures.below n (c.loop-step.invariant.below n all r) (c.named_cell.ensures.below n all r);
}

pub returns-clause-value : goal.returns-clause-value
returns-clause-value c = λ x. named-all c.deref-step-items.result.now c.args.cuts.now.steps.items c.loop-step.step-index c.loop-step.steps.items c.args.at.now c.args.rest c.named_cell-2.result c.args.cuts.now.last x c.loop-step-test.false
    c.deref-step-items.ensures.value c.named_cell-2.ensures.value (c.loop-step.invariant.value x)
