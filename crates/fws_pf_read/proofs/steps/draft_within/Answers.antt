use Rattle.std.proofs.Common.{take, refl, sym, ◌∙◌}
use Rattle.fws_pf_read.specs.Views.{draft_of}
use Rattle.fws_pf_read.proofs.Within.{rule_words}
use Rattle.fws_pf_read.proofs.steps.draft_within.Goals as goal

pub returns-in_ok-n-in-Some-clause-taken : goal.returns-in_ok-n-in-Some-clause-taken
returns-in_ok-n-in-Some-clause-taken c = λ macros piece are tags.
    rule_words c.args.setting.now (take c.in_ok-n-in-Some.n c.args.words.now) c.in-Some.field-0 (draft_of c.args.d.now) _ c.take.new.value
    (sym c.value_place.ensures ∙ c.in-Some.is) (c.in_ok-n-in-Some.ensures.taken macros piece are) refl tags
