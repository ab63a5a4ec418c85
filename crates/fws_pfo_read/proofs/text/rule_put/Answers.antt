use Rattle.std.proofs.Common.{sym, ◌∙◌}
use Rattle.fws_pfo_read.specs.Views.{draft_of}
use Rattle.fws_pfo_read.proofs.Putting.{put_checked}
use Rattle.fws_pfo_read.proofs.text.rule_put.Goals as goal

pub returns-in_ok-put_rule-in-Ok-None : goal.returns-in_ok-put_rule-in-Ok-None
returns-in_ok-put_rule-in-Ok-None c = λ t k from.
    put_checked c.args.tables.now (draft_of c.args.d) c.expanded.result c.ends.result.now k c.args.reader.now t c.put_rule.new.reader (sym c.in-Ok-None.ensures ∙ c.in-Ok-None.field-0-is)
    c.expanded.ensures c.ends.ensures from (c.in_ok-put_rule-in-Ok-None.ensures t k from)
