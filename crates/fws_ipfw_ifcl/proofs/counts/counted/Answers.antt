use Rattle.fws_ipfw_ifcl.proofs.Counting.{counted_step}
use Rattle.fws_ipfw_ifcl.proofs.counts.counted.Goals as goal

pub loop-rule-preserved : goal.loop-rule-preserved
loop-rule-preserved c =
    counted_step c.args.rules.now c.loop-rule.rule-index c.rule-item.result c.loop-rule.all.items c.put_counted.new.all.items _ c.loop-rule-test.true c.rule-item.is
    c.in_ok-put_counted.ensures c.loop-rule.invariant
