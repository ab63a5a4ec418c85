use Rattle.std.proofs.Common.{◌≡◌, ◌-◌, ◌≤◌}
use Rattle.fws_place.specs.Gathered.{IsGathered, IsOfSideBelow, served_redirect}
use Rattle.fws_place.proofs.gathering.gather_ports.Given as goal

abbrev pub invariant-loop-port : goal.invariant-loop-port
invariant-loop-port l = record {
  low : l.from ≤ 65536;
  gathered : IsGathered (IsOfSideBelow l.from l.fn.ports 65535 (λ port r. r ≡ served_redirect l.fn.local l.fn.addr l.fn.proto port)) l.initial.met.keys l.met.keys;
}

abbrev pub decreases-loop-port : goal.decreases-loop-port
decreases-loop-port l = 65536 - l.from
