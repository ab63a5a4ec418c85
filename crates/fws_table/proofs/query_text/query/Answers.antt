use Rattle.std.proofs.lemmas.Result.{IfOk-weaker}
use Rattle.fws_table.proofs.Asking.{text_of_changed}
use Rattle.fws_table.proofs.query_text.query.Goals as goal

pub returns : goal.returns
returns c = IfOk-weaker c.query_text.result _ _ (λ text e. text_of_changed c.args.site.now c.args.state c.args.ask.now c.args.t.now c.in_ok-changed.changed
    text c.requires c.in_ok-changed.ensures.tops c.in_ok-changed.ensures.reduced c.in_ok-changed.ensures.value e) c.query_text.ensures
