use Rattle.fws_pf.specs.Drawn.{choices}
use Rattle.fws_pfo_read.specs.Views.{draft_of}
use Rattle.fws_pfo_read.proofs.Putting.{put_choices}
use Rattle.fws_pfo_read.proofs.text.put_rule.Goals as goal

pub returns-in_ok-put_rule-in-Ok : goal.returns-in_ok-put_rule-in-Ok
returns-in_ok-put_rule-in-Ok c = λ t k from.
    put_choices (draft_of c.args.d) (choices c.args.tables.now c.args.d.shared) c.in-Ok.conds k c.args.reader.now t c.put_rule.new.self
    c.in-Ok.ensures from c.in_ok-put_rule-in-Ok.ensures
