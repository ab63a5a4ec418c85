use Rattle.std.proofs.Common.{sym, ◌∙◌}
use Rattle.fws_ipt_print.proofs.Values.{all_tried, tried}
use Rattle.fws_ipt_print.proofs.numbers.free_bits.Goals as goal

pub loop-bits-init : goal.loop-bits-init
loop-bits-init c = all_tried c.args.iv

pub loop-bits-preserved : goal.loop-bits-preserved
loop-bits-preserved c = tried c.args.iv c.loop-bits.bits _ c.loop-bits-test.true (sym c.has_free.ensures ∙ c.if-has_free.false) c.loop-bits.invariant
