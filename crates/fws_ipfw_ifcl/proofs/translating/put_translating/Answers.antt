use Rattle.std.proofs.Common.{rules}
use Rattle.fws_ipfw_ifcl.proofs.Putting.{translating_put}
use Rattle.fws_ipfw_ifcl.proofs.translating.put_translating.Goals as goal

pub returns : goal.returns
returns c =
    translating_put c.args.rules.now.items c.put_tracking.new.rules.items c.put_redirecting.new.rules.items c.put_redirecting-2.new.rules.items c.args.done c.in_ok-outwards.outwards c.args.nat.now
    (search rules) (search rules) (search rules) (search rules)
