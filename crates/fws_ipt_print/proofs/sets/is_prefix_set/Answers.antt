use Rattle.std.proofs.Common.{sym, ◌∙◌}
use Rattle.fws_ipt_print.proofs.Fields.{length_tried}
use Rattle.fws_ipt_print.proofs.sets.is_prefix_set.Goals as goal

pub loop-n-preserved : goal.loop-n-preserved
loop-n-preserved c = length_tried c.args.set.now c.loop-n.n _ c.loop-n-test.true (sym c.is_block.ensures ∙ c.if-is_block.false) c.loop-n.invariant
