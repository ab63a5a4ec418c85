use Rattle.fws_pfo_ifcl.proofs.Bits.{bit_put}
use Rattle.fws_pfo_ifcl.proofs.held.bits_of.Goals as goal

pub loop-i-preserved : goal.loop-i-preserved
loop-i-preserved c =
    bit_put c.args.count c.loop-i._i c.loop-i.left c.loop-i.bits.items c.push.new.self.items _ c.loop-i-test.true c.in_ok-push.ensures.items c.loop-i.invariant
