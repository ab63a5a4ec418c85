use Rattle.std.proofs.Common.{◌≡◌, drop}
use Rattle.fws_ios.specs.Walk.{first_end, inner_end}
use Rattle.fws_ios.proofs.model.translating.first_inner_end.Given as goal

abbrev pub invariant-loop-nat : goal.invariant-loop-nat
invariant-loop-nat l = first_end (inner_end l.p) (drop l.nat-index l.nats) ≡ first_end (inner_end l.p) l.nats
