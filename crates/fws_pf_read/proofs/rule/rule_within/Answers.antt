use Rattle.std.proofs.Common.{◌≡◌, ℕ, Ok, List, take, IfOk, OnOk, ap, ◌∙◌, subst}
use Rattle.fws_pf.specs.declared.macros.Macro.{Macro}
use Rattle.fws_pf.specs.declared.rule_draft.RuleDraft.{RuleDraft}
use Rattle.fws_pf.specs.declared.statement.Statement.TheVariants as any
use Rattle.fws_pf.specs.StatementText.{words_taken}
use Rattle.fws_pf_words.specs.UsesKnown.{AreUses, ArePiece}
use Rattle.fws_pf_read.specs.Views.{draft_of}
use Rattle.fws_pf_read.proofs.rule.rule_within.Goals as goal

pub returns-clause-taken : goal.returns-clause-taken
returns-clause-taken c =
    subst
    (λ (d : RuleDraft).
    (macros : List Macro) → ArePiece macros c.args.source c.args.name.now c.args.words.now → AreUses c.args.setting.now macros d.value.items c.args.uses.now
    → IfOk c.draft_within.result (λ n. (tags : List (List ℕ)) → words_taken c.args.setting.now tags (take n c.args.words.now) (any.Rule d) ≡ Ok (any.Rule (draft_of c.draft_within.new.d))))
    (ap draft_of c.deref_mut.ensures.value ∙ c.rule.view_is) c.draft_within.ensures.taken

pub returns-clause-known : goal.returns-clause-known
returns-clause-known c =
    subst
    (λ (d : RuleDraft).
    (macros : List Macro) → ArePiece macros c.args.source c.args.name.now c.args.words.now → AreUses c.args.setting.now macros d.value.items c.args.uses.now
    → OnOk c.draft_within.result (AreUses c.args.setting.now macros c.draft_within.new.d.value.items c.draft_within.new.uses))
    (ap draft_of c.deref_mut.ensures.value ∙ c.rule.view_is) c.draft_within.ensures.known
