use Rattle.std.proofs.Common.{arith}
use Rattle.fws_ipt_put_chains.proofs.Intervals.{places_next}
use Rattle.fws_ipt_put_chains.proofs.port_lists.fitting.Goals as goal

pub loop-i-preserved : goal.loop-i-preserved
loop-i-preserved c =
    let next = places_next c.args.ranges.now c.loop-i.i (record { lo = 0; hi = 0 }) c.loop-i-test.true in
    record {
      counted = omega (arith, next, c.loop-i.invariant.counted, c.places-more.ensures);
      room = omega (arith, c.if-taken-more-gt-PLACES.false);
    }
