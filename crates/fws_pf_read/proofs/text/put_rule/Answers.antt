use Rattle.fws_pf.specs.Drawn.{choices}
use Rattle.fws_pf_read.proofs.Putting.{put_choices}
use Rattle.fws_pf_read.proofs.text.put_rule.Goals as goal

pub returns-in_ok-put_rule-in-Ok : goal.returns-in_ok-put_rule-in-Ok
returns-in_ok-put_rule-in-Ok c = λ t k from.
    put_choices c.args.rule (choices c.args.tables.now c.args.rule) c.in-Ok.conds k c.args.reader.now t c.put_rule.new.self
    c.in-Ok.ensures from c.in_ok-put_rule-in-Ok.ensures
