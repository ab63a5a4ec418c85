use Rattle.fws_ipfw_ifcl.proofs.Putting.{instance_put}
use Rattle.fws_ipfw_ifcl.proofs.blocks.put_by_instance.Goals as goal

pub returns : goal.returns
returns c =
    instance_put c.args.done c.args.cond c.args.nat.now c.args.rules.now.items c.put_guard.new.rules.items c.put_translating.new.rules.items c.in_ok-inner.inner
    c.in_ok-inner.ensures c.in_ok-put_guard.ensures c.in_ok-put_translating.ensures
