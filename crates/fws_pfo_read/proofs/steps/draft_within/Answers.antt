use Rattle.std.proofs.Common.{◌≡◌, true, take, sym, ap, ◌∙◌, rules}
use Rattle.fws_pf.specs.declared.rule_draft.RuleDraft.{RuleDraft}
use Rattle.fws_pfo.specs.Drafts.{with_shared}
use Rattle.fws_pfo_read.specs.Views.{draft_of, is_at_value}
use Rattle.fws_pfo_read.proofs.Within.{rule_words}
use Rattle.fws_pfo_read.proofs.steps.draft_within.Goals as goal

pub returns-clause-taken : goal.returns-clause-taken
returns-clause-taken c = λ macros piece are tags.
    let d = draft_of c.args.d.now in
    let at : is_at_value d ≡ true = sym c.is_at_value.ensures ∙ search rules in
    rule_words c.args.setting.now (take c.in_ok-n.n c.args.words.now) d _ c.take_within.new.self.value at (c.in_ok-n.ensures.taken macros piece are)
    (ap (λ (s : RuleDraft). with_shared s d) c.in_ok-n.ensures.alone) tags
