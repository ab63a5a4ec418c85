use Rattle.std.proofs.Common.{drop, map}
use Rattle.fws_pf_print.specs.Printable.{behind_translations}
use Rattle.fws_pf_put.specs.Renumbered.{renamed_nat}
use Rattle.fws_pf_put.proofs.Numbering.{GathersSoFar}
use Rattle.fws_pf_put.proofs.gathering.gather_nats.Given as goal

abbrev pub invariant-loop-nat : goal.invariant-loop-nat
invariant-loop-nat l =
    GathersSoFar l.fn.tags.keys l.tags.keys (λ f known. behind_translations (map (renamed_nat f) l.nats) known) (λ f known. behind_translations (map (renamed_nat f) (drop l.nat-index l.nats)) known)
