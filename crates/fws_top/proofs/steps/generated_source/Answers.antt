use Rattle.std.proofs.Common.{IfErr, IfOk, subst, ◌∙◌}
use Rattle.std.specs.Prelude.{codes}
use Rattle.fws_top.specs.Codes.{IsCode}
use Rattle.fws_top.specs.declared.lang.SourceLang.TheVariants.{Iptables}
use Rattle.fws_top.specs.Judged.{judge}
use Rattle.fws_top.specs.Plan.{judged}
use Rattle.fws_top.specs.Steps.{EndsIn}
use Rattle.fws_top.proofs.steps.generated_source.Goals as goal

pub returns-clause-code : goal.returns-clause-code
returns-clause-code c =
    let site = c.args.site.now in
    subst (λ bytes. IfOk c.judge_source.result (IsCode (judged (codes "load text") (judge Iptables site bytes)) site)) (c.as_slice.ensures ∙ c.in_ok-text.ensures) c.judge_source.ensures.code

pub returns-clause-refused : goal.returns-clause-refused
returns-clause-refused c =
    subst (λ bytes. IfErr c.judge_source.result (EndsIn (judged (codes "load text") (judge Iptables c.args.site.now bytes)))) (c.as_slice.ensures ∙ c.in_ok-text.ensures) c.judge_source.ensures.refused
