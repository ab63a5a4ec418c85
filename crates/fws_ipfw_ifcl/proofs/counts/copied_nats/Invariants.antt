use Rattle.std.proofs.Common.{◌≡◌, ◌++◌, drop}
use Rattle.fws_ipfw_ifcl.proofs.counts.copied_nats.Given as goal

abbrev pub invariant-loop-nat : goal.invariant-loop-nat
invariant-loop-nat l = l.all.items ++ drop l.nat-index l.nats ≡ l.nats
