use Rattle.fws_ipfw_print.proofs.LinesPut.{number_put}
use Rattle.fws_ipfw_print.proofs.values.add_numbers.Goals as goal

pub loop-n-preserved : goal.loop-n-preserved
loop-n-preserved c = number_put c.loop-n.numbers.items c.push.new.self.items _ c.loop-n.n _ c.loop-n-test.true c.in_ok-push.ensures.items c.loop-n.invariant
