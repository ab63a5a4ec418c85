use Rattle.fws_num.specs.Numbers.{mask_len}
use Rattle.fws_num.proofs.Masks.{found, passed}
use Rattle.fws_num.proofs.prefixes.mask_len.Goals as goal

pub returns-then-mask_of-mask-clause-value : goal.returns-then-mask_of-mask-clause-value
returns-then-mask_of-mask-clause-value c = found c.args.mask c.loop-len.len c.mask_of.result (mask_len c.args.mask) c.loop-len-test.true c.mask_of.ensures c.if-mask_of-mask.true c.loop-len.invariant

pub loop-len-preserved : goal.loop-len-preserved
loop-len-preserved c = passed c.args.mask c.loop-len.len c.mask_of.result (mask_len c.args.mask) c.loop-len-test.true c.mask_of.ensures c.if-mask_of-mask.false c.loop-len.invariant
