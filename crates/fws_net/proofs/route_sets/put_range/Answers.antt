use Rattle.fws_net.proofs.Halves.{has_one_more}
use Rattle.fws_net.proofs.route_sets.put_range.Goals as goal

pub returns-in_ok-push-clause-members : goal.returns-in_ok-push-clause-members
returns-in_ok-push-clause-members c = λ v.
    has_one_more c.args.block c.last.result v c.args.is_asked c.args.ranges.now.items c.push.new.self.items c.requires.block c.last.ensures
    c.in_ok-push.ensures.items c.if-is_asked.true
