use Rattle.std.proofs.Common.{◌≡◌, ℕ, ◌++◌, Bool, drop}
use Rattle.fws_ifcl_rules.specs.UsedPlaces.{spots_from}
use Rattle.fws_pf_ifcl.specs.Placed.{translations_told}
use Rattle.fws_pf_ifcl.proofs.spots.put_translation_spots.Given as goal

abbrev pub invariant-loop-nat : goal.invariant-loop-nat
invariant-loop-nat l =
    (outward : Bool) (filter : ℕ)
    → l.spots.items ++ spots_from l.chain l.at (translations_told outward filter l.at l.n (drop l.nat-index l.nats))
    ≡ l.fn.spots.items ++ spots_from l.chain l.first (translations_told outward filter l.first l.number l.nats)
