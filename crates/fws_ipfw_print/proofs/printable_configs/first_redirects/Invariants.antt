use Rattle.std.proofs.Common.{◌≡◌, drop}
use Rattle.fws_ipfw_print.specs.Printable.{redirects_at}
use Rattle.fws_ipfw_print.proofs.printable_configs.first_redirects.Given as goal

abbrev pub invariant-loop-nat : goal.invariant-loop-nat
invariant-loop-nat l = redirects_at (drop l.nat-index l.nats) l.n ≡ redirects_at l.nats l.n
