use Rattle.std.proofs.Common.{◌≡◌, drop}
use Rattle.fws_ipfw.specs.Walk.{nat_numbered}
use Rattle.fws_ipfw_ifcl.proofs.instances.first_numbered.Given as goal

abbrev pub invariant-loop-nat : goal.invariant-loop-nat
invariant-loop-nat l = nat_numbered l.number (drop l.nat-index l.nats) ≡ nat_numbered l.number l.nats
