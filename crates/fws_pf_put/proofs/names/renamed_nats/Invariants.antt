use Rattle.std.proofs.Common.{◌≡◌, ◌++◌, drop, map}
use Rattle.fws_pf_put.specs.Renumbered.{place_in, renamed_nat}
use Rattle.fws_pf_put.proofs.names.renamed_nats.Given as goal

abbrev pub invariant-loop-nat : goal.invariant-loop-nat
invariant-loop-nat l =
    l.renamed ++ map (renamed_nat (place_in l.tags.keys)) (drop l.nat-index l.nats) ≡ map (renamed_nat (place_in l.tags.keys)) l.nats
