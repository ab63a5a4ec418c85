use Rattle.fws_ipfw_print.proofs.LinesPut.{rules_put}
use Rattle.fws_ipfw_print.proofs.lines.put_rules_from.Goals as goal

pub loop-r-preserved : goal.loop-r-preserved
loop-r-preserved c =
    rules_put c.args.site.now c.loop-r.from c.args.rules.now c.loop-r.r-index c.r-item.result c.loop-r.out c.put_section.new.out c.put_rule.new.out _ c.loop-r-test.true c.r-item.is
    c.in_ok-put_section.ensures c.in_ok-put_rule.ensures c.loop-r.invariant
