use Rattle.std.proofs.Common.{◌≡◌, drop}
use Rattle.fws_ipfw_print.specs.Printable.{numbers_ascend}
use Rattle.fws_ipfw_print.proofs.printable_configs.numbers_ascend.Given as goal

abbrev pub invariant-loop-nat : goal.invariant-loop-nat
invariant-loop-nat l = numbers_ascend l.from (drop l.nat-index l.nats) ≡ numbers_ascend 0 l.nats
