use Rattle.std.proofs.Common.{subst}
use Rattle.fws_box.specs.Sides.{IsWithin}
use Rattle.fws_net.specs.declared.connection.Kind.{Kind}
use Rattle.fws_net.specs.Points.{tops_of}
use Rattle.fws_trace.specs.Outcomes.{point_of}
use Rattle.fws_events.proofs.Fated.{judged_so}
use Rattle.fws_events.proofs.running.judged.Goals as goal

pub returns-clause-met : goal.returns-clause-met
returns-clause-met c =
    subst (λ (k : Kind). IsWithin (tops_of c.args.site.now) (point_of c.args.p.now k)) c.class-kind.ensures c.outcome_by.ensures.within

pub returns-clause-given : goal.returns-clause-given
returns-clause-given c walk gives = judged_so c.args.site.now c.args.t.now c.args.tracks walk c.args.conns.now c.args.p.now c.class-kind.result c.outcome_by.result
    c.fate-fate.result c.answer_of.result c.tracked.result gives c.class-kind.ensures c.outcome_by.ensures.value c.outcome_by.ensures.within c.fate-fate.ensures
    c.answer_of.ensures c.tracked.ensures
