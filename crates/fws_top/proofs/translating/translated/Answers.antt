use Rattle.std.proofs.lemmas.Result.{IfOk-weaker}
use Rattle.fws_top.specs.declared.answer.Answer.{Answer}
use Rattle.fws_top.specs.Translations.{IsPlacement, IsTranslation}
use Rattle.fws_top.proofs.translating.translated.Goals as goal

pub returns : goal.returns
returns c = λ walk does.
    let site = c.args.site.now in
    let target = c.args.target in
    let tables = c.in_ok-tables.tables in
    IfOk-weaker c.placed_in.result (λ (a : Answer). IsPlacement target site tables a.status a.text) (λ (a : Answer). IsTranslation target site walk a.status a.text)
    (λ a placed. (tables, c.in_ok-tables.ensures.walked walk does, placed)) c.placed_in.ensures
