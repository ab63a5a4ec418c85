use Rattle.std.proofs.Common.{IfErr, IfOk, subst, ◌∙◌}
use Rattle.std.specs.Prelude.{codes}
use Rattle.fws_net.specs.SiteText.{site_of}
use Rattle.fws_top.specs.Plan.{spelled_site}
use Rattle.fws_top.specs.Steps.{Chooses, EndsIn}
use Rattle.fws_top.proofs.steps.generated_site.Goals as goal

pub returns-clause-chooses : goal.returns-clause-chooses
returns-clause-chooses c =
    subst (λ bytes. IfOk c.judge_site.result (Chooses (spelled_site (codes "load site") (site_of bytes)))) (c.as_slice.ensures ∙ c.in_ok-text.ensures) c.judge_site.ensures.chooses

pub returns-clause-refused : goal.returns-clause-refused
returns-clause-refused c =
    subst (λ bytes. IfErr c.judge_site.result (EndsIn (spelled_site (codes "load site") (site_of bytes)))) (c.as_slice.ensures ∙ c.in_ok-text.ensures) c.judge_site.ensures.refused
