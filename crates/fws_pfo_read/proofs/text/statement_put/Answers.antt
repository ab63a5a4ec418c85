use Rattle.fws_pfo_read.proofs.Putting.{rule_said}
use Rattle.fws_pfo_read.proofs.text.statement_put.Goals as goal

pub returns-in-Rule : goal.returns-in-Rule
returns-in-Rule c = λ t k tags from.
    rule_said c.args.site.now c.args.tables.now c.args.s _ t c.rule_put.result c.rule_put.new.reader c.in-Rule.is (c.rule_put.ensures t k from)
