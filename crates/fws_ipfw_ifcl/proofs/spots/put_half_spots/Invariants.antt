use Rattle.std.proofs.Common.{◌≡◌, ◌++◌, drop}
use Rattle.fws_ifcl_rules.specs.UsedPlaces.{spots_from}
use Rattle.fws_ipfw_ifcl.specs.Placed.{half_told}
use Rattle.fws_ipfw_ifcl.proofs.spots.put_half_spots.Given as goal

abbrev pub invariant-loop-rule : goal.invariant-loop-rule
invariant-loop-rule l =
    l.spots.items ++ spots_from 0 l.at (half_told l.nats l.translated l.n (drop l.rule-index l.rules))
    ≡ l.fn.spots.items ++ spots_from 0 l.first (half_told l.nats l.translated 0 l.rules)
