use Rattle.std.proofs.Common.{◌≡◌, ◌++◌, map, drop}
use Rattle.fws_num.specs.Written.{ended, spaced}
use Rattle.fws_ipfw_print.specs.PrintedText.{nat_words}
use Rattle.fws_ipfw_print.proofs.instances.put_all.Given as goal

abbrev pub invariant-loop-nat : goal.invariant-loop-nat
invariant-loop-nat l = l.out ++ ended (map (λ nat. spaced (nat_words nat)) (drop l.nat-index l.nats)) ≡ l.initial.out ++ ended (map (λ nat. spaced (nat_words nat)) l.nats)
