use Rattle.fws_num.specs.Written.{spaced}
use Rattle.fws_pf_print.specs.PrintedText.{rule_words}
use Rattle.fws_pf_print.proofs.LinesPut.{items_put}
use Rattle.fws_pf_print.proofs.rules.put_rules.Goals as goal

pub loop-r-preserved : goal.loop-r-preserved
loop-r-preserved c =
    items_put (λ r. spaced (rule_words c.args.site.now r)) c.args.rules.now c.loop-r.r-index c.r-item.result c.loop-r.out c.put_rule.new.out _ c.loop-r-test.true c.r-item.is c.in_ok-put_rule.ensures
    c.loop-r.invariant
