use Rattle.std.proofs.Common.{◌≡◌}
use Rattle.fws_net.specs.Points.{tops_of}
use Rattle.fws_place.proofs.Going.{IsSoFar}
use Rattle.fws_place.proofs.outgoing.going_out.Given as goal

abbrev pub invariant-loop-outcome : goal.invariant-loop-outcome
invariant-loop-outcome l = record {
  tops : l.all.0 ≡ tops_of l.site;
  so_far : IsSoFar l.site l.outcomes.1 l.outcome-items l.outcome-index l.all.1;
}
