use Rattle.std.proofs.Common.{IfErr, sym, subst}
use Rattle.fws_top.specs.Judged.{judge}
use Rattle.fws_top.specs.Plan.{judged}
use Rattle.fws_top.specs.Steps.{EndsIn}
use Rattle.fws_top.proofs.steps.judge_source.Goals as goal

pub returns-in-Iptables-clause-refused : goal.returns-in-Iptables-clause-refused
returns-in-Iptables-clause-refused c =
    subst (λ lang. IfErr c.take_policy.result (EndsIn (judged c.args.name.now (judge lang c.args.site.now c.args.bytes.now))))
    (sym c.in-Iptables.is) c.take_policy.ensures.refused

pub returns-in-Ipfw-clause-refused : goal.returns-in-Ipfw-clause-refused
returns-in-Ipfw-clause-refused c =
    subst (λ lang. IfErr c.take_policy-in-Ipfw.result (EndsIn (judged c.args.name.now (judge lang c.args.site.now c.args.bytes.now))))
    (sym c.in-Ipfw.is) c.take_policy-in-Ipfw.ensures.refused

pub returns-in-Pf-clause-refused : goal.returns-in-Pf-clause-refused
returns-in-Pf-clause-refused c =
    subst (λ lang. IfErr c.take_policy-in-Pf.result (EndsIn (judged c.args.name.now (judge lang c.args.site.now c.args.bytes.now))))
    (sym c.in-Pf.is) c.take_policy-in-Pf.ensures.refused

pub returns-in-Ios-clause-refused : goal.returns-in-Ios-clause-refused
returns-in-Ios-clause-refused c =
    subst (λ lang. IfErr c.take_policy-in-Ios.result (EndsIn (judged c.args.name.now (judge lang c.args.site.now c.args.bytes.now))))
    (sym c.in-Ios.is) c.take_policy-in-Ios.ensures.refused

pub returns-in-Openbsd-clause-refused : goal.returns-in-Openbsd-clause-refused
returns-in-Openbsd-clause-refused c =
    subst (λ lang. IfErr c.take_policy-in-Openbsd.result (EndsIn (judged c.args.name.now (judge lang c.args.site.now c.args.bytes.now))))
    (sym c.in-Openbsd.is) c.take_policy-in-Openbsd.ensures.refused
