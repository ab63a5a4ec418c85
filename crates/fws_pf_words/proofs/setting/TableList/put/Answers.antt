use Rattle.std.proofs.Common.{◌∙◌, ap, sym, is_some, find}
use Rattle.fws_pf.specs.Tables.{has_table}
use Rattle.fws_pf_words.proofs.Placed.{bears, put_known}
use Rattle.fws_pf_words.proofs.setting.TableList.put.Goals as goal

pub invariant_of-self-then-has : goal.invariant_of-self-then-has
invariant_of-self-then-has c = λ name.
    put_known c.self.inside.tables c.put.new.self c.args.table name _ c.has.result (c.self.invariant name) c.in_ok-put.ensures.ok
    (c.has.ensures ∙ ap (has_table c.args.self.now) c.name.ensures ∙ ap (λ ts. is_some (find (bears c.args.table.name) ts)) (sym c.self.view_is)) c.if-has.true
