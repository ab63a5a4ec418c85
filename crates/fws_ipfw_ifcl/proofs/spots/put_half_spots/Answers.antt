use Rattle.std.proofs.Common.{rules}
use Rattle.fws_ipfw_ifcl.proofs.Beside.{half_step}
use Rattle.fws_ipfw_ifcl.proofs.spots.put_half_spots.Goals as goal

pub loop-rule-preserved : goal.loop-rule-preserved
loop-rule-preserved c =
    half_step c.uses_are_told_by_places.ensures c.args.nats.now c.args.translated c.args.rules.now c.loop-rule.rule-index c.rule-item.result
    c.loop-rule.at c.in_ok-behind.behind c.loop-rule.n c.in_ok-n.n c.loop-rule.spots.items c.put_spot.new.spots.items _ c.loop-rule-test.true c.rule-item.is
    (search rules) c.in_ok-n.ensures c.in_ok-put_spot.ensures c.loop-rule.invariant
