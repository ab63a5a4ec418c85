use Rattle.std.proofs.Common.{◌≡◌, Ok, take, sym, ap, subst, ◌∙◌}
use Rattle.fws_pfo.specs.StatementText.{words_taken}
use Rattle.fws_pfo.specs.declared.statement.PfoStatement.TheVariants as any
use Rattle.fws_pf_words.specs.declared.table_draft.LongTable.{LongTable}
use Rattle.fws_pf_words.specs.TableSteps.{table_seen}
use Rattle.fws_pf_words.specs.UsesKnown.{AreUses}
use Rattle.fws_pfo_read.proofs.Within.{table_words}
use Rattle.fws_pfo_read.proofs.statement.table_piece.Goals as goal

pub returns-in_ok-new-in-Members-clause-taken : goal.returns-in_ok-new-in-Members-clause-taken
returns-in_ok-new-in-Members-clause-taken c = λ macros piece are tags.
    let words = take c.in_ok-n-in-Members.n c.args.words.now in
    let is_same = c.into_table-table.ensures in
    let uses = subst (λ (x : LongTable). AreUses c.args.setting.now macros x.members.items c.args.uses.now) (sym is_same) are in
    subst (λ (x : LongTable). words_taken c.args.setting.now tags words (any.Table (table_seen x)) ≡ Ok (any.Table (table_seen c.in_ok-new-in-Members.field-0))) is_same
    (table_words c.args.setting.now words (table_seen c.into_table-table.result) _ c.take.new.value
    (ap (λ (x : LongTable). x.expects) is_same ∙ sym c.expects.ensures ∙ c.in-Members.is) (c.in_ok-n-in-Members.ensures.taken macros piece uses)
    (ap table_seen c.in_ok-new-in-Members.ensures) tags)
