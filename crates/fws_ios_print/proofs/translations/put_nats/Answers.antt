use Rattle.std.proofs.Common.{◌+◌, arith}
use Rattle.fws_ios_print.proofs.LinesPut.{next_nat_put}
use Rattle.fws_ios_print.proofs.translations.put_nats.Goals as goal

pub loop-nat-preserved : goal.loop-nat-preserved
loop-nat-preserved c = record {
  counted = omega (arith, c.loop-nat.invariant.counted);
  put = next_nat_put c.args.nats.now c.loop-nat.nat-index c.nat-item.result (c.loop-nat.ahead + 1) c.loop-nat.out c.put_nat.new.out _ c.loop-nat-test.true c.nat-item.is c.in_ok-put_nat.ensures
      c.loop-nat.invariant.put;
}
