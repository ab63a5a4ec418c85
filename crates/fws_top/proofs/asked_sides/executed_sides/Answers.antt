use Rattle.std.proofs.Common.{arith, rules}
use Rattle.fws_top.proofs.Widening.{widened, widened_next}
use Rattle.fws_top.proofs.asked_sides.executed_sides.Goals as goal

pub returns : goal.returns
returns c = widened c.loop-k.wider c.args.sides.now 12 c.loop-k.invariant.twelve (omega arith) (λ j lt x. c.loop-k.invariant.made j (omega arith) x)

pub loop-k-preserved : goal.loop-k-preserved
loop-k-preserved c =
    let before = c.loop-k.invariant in
    record {
      twelve = search rules;
      made = widened_next c.loop-k.wider c.args.sides.now c.loop-k.k c.in_ok-wider.field-0 _ before.twelve (omega arith) (omega arith) before.made c.in_ok-wider.ensures;
    }
