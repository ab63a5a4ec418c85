use Rattle.std.proofs.Common.{◌≡◌, Ok, take, sym, ap, subst, ◌∙◌}
use Rattle.fws_pfo.specs.StatementText.{words_taken}
use Rattle.fws_pfo.specs.declared.statement.PfoStatement.TheVariants as any
use Rattle.fws_pf.specs.declared.value_draft.ValueDraft.{ValueDraft}
use Rattle.fws_pf_words.specs.UsesKnown.{AreUses}
use Rattle.fws_pfo_read.proofs.Within.{skip_words}
use Rattle.fws_pfo_read.proofs.statement.skip_piece.Goals as goal

pub returns-clause-taken : goal.returns-clause-taken
returns-clause-taken c = λ macros piece are tags.
    let words = take c.in_ok-n.n c.args.words.now in
    let is_same = c.into_value-value.ensures in
    let uses = subst (λ (x : ValueDraft). AreUses c.args.setting.now macros x.items c.args.uses.now) (sym is_same) are in
    subst (λ (x : ValueDraft). words_taken c.args.setting.now tags words (any.SkipOn x) ≡ Ok (any.SkipOn c.in_ok-new.field-0)) is_same
    (skip_words c.args.setting.now words c.into_value-value.result c.take.new.value (c.in_ok-n.ensures.taken macros piece uses) tags
    ∙ ap (λ (x : ValueDraft). Ok (any.SkipOn x)) (sym c.in_ok-new.ensures))
