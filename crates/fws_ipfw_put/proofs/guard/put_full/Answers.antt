use Rattle.fws_ipfw_put.proofs.Listed.{full_guard}
use Rattle.fws_ipfw_put.proofs.guard.put_full.Goals as goal

pub returns : goal.returns
returns c =
    full_guard c.args.site.now c.args.packet.now.1 c.args.behind.now.1 c.args.rules.now c.put_passing.new.rules c.put_leaving.new.rules c.put_passing-2.new.rules c.put_passing-3.new.rules
    c.in_ok-put_passing.ensures c.in_ok-put_leaving.ensures c.in_ok-put_passing-2.ensures c.in_ok-put_passing-3.ensures
