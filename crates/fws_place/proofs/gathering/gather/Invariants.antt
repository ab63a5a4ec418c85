use Rattle.std.proofs.Common.{◌-◌, ◌≤◌}
use Rattle.fws_place.specs.Gathered.{IsGathered, IsOfSideBelow, IsOfAddress}
use Rattle.fws_place.proofs.gathering.gather.Given as goal

abbrev pub invariant-loop-addr : goal.invariant-loop-addr
invariant-loop-addr l = record {
  low : l.from ≤ 4294967296;
  gathered : IsGathered (IsOfSideBelow l.from l.fn.addrs 4294967295 (λ addr r. IsOfAddress l.fn.local.port l.fn.local l.fn.protos l.fn.ports addr r)) l.initial.met.keys l.met.keys;
}

abbrev pub decreases-loop-addr : goal.decreases-loop-addr
decreases-loop-addr l = 4294967296 - l.from
