use Rattle.std.proofs.Common.{◌-◌, ◌≤◌}
use Rattle.fws_place.specs.Gathered.{IsGathered, IsOfSideBelow, IsOfPort}
use Rattle.fws_place.proofs.gathering.gather_services.Given as goal

abbrev pub invariant-loop-proto : goal.invariant-loop-proto
invariant-loop-proto l = record {
  low : l.from ≤ 256;
  gathered : IsGathered (IsOfSideBelow l.from l.fn.protos 255 (λ proto r. IsOfPort l.fn.local l.fn.ports l.fn.addr proto r)) l.initial.met.keys l.met.keys;
}

abbrev pub decreases-loop-proto : goal.decreases-loop-proto
decreases-loop-proto l = 256 - l.from
