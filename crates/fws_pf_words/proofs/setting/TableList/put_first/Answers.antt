use Rattle.std.proofs.Common.{◌∙◌, ap, sym, is_some, find}
use Rattle.std.specs.Map.{lookup}
use Rattle.std.specs.Str.{bytes_eq}
use Rattle.fws_pf.specs.Tables.{has_table}
use Rattle.fws_pf_words.proofs.Placed.{bears, put_new}
use Rattle.fws_pf_words.proofs.setting.TableList.put_first.Goals as goal

pub invariant_of-self-in-Ok : goal.invariant_of-self-in-Ok
invariant_of-self-in-Ok c = λ name.
    put_new c.self.inside.tables c.put.new.self c.args.table _ name _ _ c.len-place.result (has_table c.args.self.now c.args.table.name)
    (ap (lookup (bytes_eq name)) c.in-Ok.ensures.entries ∙ c.self.invariant name) c.in_ok-put-in-Ok.ensures.ok
    (ap (λ ts. is_some (find (bears c.args.table.name) ts)) (sym c.self.view_is)) c.requires.first c.requires.name c.len-place.ensures
    (c.in_ok-insert-in-Ok.ensures.updates.0 name)
