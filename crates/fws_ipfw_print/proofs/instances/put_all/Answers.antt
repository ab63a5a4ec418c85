use Rattle.fws_num.specs.Written.{spaced}
use Rattle.fws_ipfw_print.specs.PrintedText.{nat_words}
use Rattle.fws_ipfw_print.proofs.LinesPut.{items_put}
use Rattle.fws_ipfw_print.proofs.instances.put_all.Goals as goal

pub loop-nat-preserved : goal.loop-nat-preserved
loop-nat-preserved c =
    items_put (λ nat. spaced (nat_words nat)) c.args.nats.now c.loop-nat.nat-index c.nat-item.result c.loop-nat.out c.put_nat.new.out _ c.loop-nat-test.true c.nat-item.is
    c.in_ok-put_nat.ensures c.loop-nat.invariant
