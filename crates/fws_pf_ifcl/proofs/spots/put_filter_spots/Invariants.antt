use Rattle.std.proofs.Common.{◌≡◌, ◌++◌, drop}
use Rattle.fws_ifcl_rules.specs.UsedPlaces.{spots_from}
use Rattle.fws_pf_ifcl.specs.Placed.{filter_told}
use Rattle.fws_pf_ifcl.proofs.spots.put_filter_spots.Given as goal

abbrev pub invariant-loop-rule : goal.invariant-loop-rule
invariant-loop-rule l =
    l.spots.items ++ spots_from l.chain l.at (filter_told l.outward l.at l.n (drop l.rule-index l.filter))
    ≡ l.fn.spots.items ++ spots_from l.chain l.first (filter_told l.outward l.first l.number l.filter)
