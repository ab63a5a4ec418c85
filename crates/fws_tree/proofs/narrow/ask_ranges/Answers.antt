use Rattle.std.proofs.Common.{◌∙◌}
use Rattle.fws_tree.specs.declared.store.Step.{Step}
use Rattle.fws_tree.proofs.Asking.{ranges_right}
use Rattle.fws_tree.proofs.narrow.ask_ranges.Goals as goal

pub loop-other-preserved : goal.loop-other-preserved
loop-other-preserved c = let d : Step = record { hi = 0; node = 0 } in record {
  order = c.in_ok-from.ensures.order;
  left = λ x. c.in_ok-from.ensures.left x ∙ c.loop-other.invariant.left x;
  right = ranges_right c.args.others.now c.args.steps.now c.loop-other.parts.items c.ask_range.new.parts.items c.loop-other.other-index d c.loop-other-test.true c.loop-other.invariant.right c.in_ok-from.ensures.right;
  parts = λ n m all last others. c.in_ok-from.ensures.parts n m all last (others c.loop-other.other-index d c.loop-other-test.true) (c.loop-other.invariant.parts n m all last others);
}
