use Rattle.std.proofs.Common.{ap, subst, sym, ◌∙◌}
use Rattle.fws_pf.specs.declared.rule_draft.RuleDraft.{RuleDraft}
use Rattle.fws_pf_words.specs.UsesKnown.{AreUses}
use Rattle.fws_pf_read.specs.Views.{draft_of}
use Rattle.fws_pf_read.proofs.rule.Rule.take_within.Goals as goal

pub returns-clause-known : goal.returns-clause-known
returns-clause-known c = λ macros piece are.
    c.in_ok-n.ensures.known macros piece
    (subst (λ (d : RuleDraft). AreUses c.args.setting.now macros d.value.items c.args.uses.now) (sym (ap draft_of c.deref_mut.ensures.value ∙ c.self.view_is)) are)
