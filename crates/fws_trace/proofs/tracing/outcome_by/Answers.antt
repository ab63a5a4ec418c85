use Rattle.std.proofs.Common.{sym, subst}
use Rattle.fws_box.specs.Sides.{IsWithin}
use Rattle.fws_net.specs.declared.connection.Kind.{Kind}
use Rattle.fws_net.specs.Points.{tops_of}
use Rattle.fws_trace.specs.Outcomes.{point_of}
use Rattle.fws_trace.proofs.Walked.{new_outcome, est_outcome}
use Rattle.fws_trace.proofs.tracing.outcome_by.Goals as goal

pub returns-in-New-clause-value : goal.returns-in-New-clause-value
returns-in-New-clause-value c = new_outcome c.args.t.now c.args.p.now c.args.kind.now c.lookup.result.now c.point_with.result c.in-New.is c.point_with.ensures.value c.lookup.ensures

pub returns-in-Est-clause-value : goal.returns-in-Est-clause-value
returns-in-Est-clause-value c = est_outcome c.args.t.now c.args.p.now c.args.kind.now c.in-Est.ends c.lookup-in-Est.result.now c.point_with-in-Est.result
    c.in-Est.is c.point_with-in-Est.ensures.value c.lookup-in-Est.ensures

pub returns-in-Est-clause-within : goal.returns-in-Est-clause-within
returns-in-Est-clause-within c =
    subst (λ (k : Kind). IsWithin (tops_of c.args.site.now) (point_of c.args.p.now k)) (sym c.in-Est.is) c.point_with-in-Est.ensures.within
