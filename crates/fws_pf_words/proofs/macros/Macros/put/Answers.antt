use Rattle.std.proofs.Common.{List, ap, ◌∙◌}
use Rattle.fws_num.specs.declared.word.Word.{Word}
use Rattle.fws_pf.specs.Macros.{with_macro}
use Rattle.fws_pf_words.proofs.Uses.{macro_put}
use Rattle.fws_pf_words.proofs.macros.Macros.put.Goals as goal

pub returns : goal.returns
returns c =
    macro_put c.args.name c.new.result c.self.inside.words.entries _ c.args.self.now c.self.view_is c.in_ok-insert.ensures.entries
    ∙ ap (λ (ws : List Word). with_macro c.args.name ws c.args.self.now) c.new.ensures
