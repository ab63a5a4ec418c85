use Rattle.std.proofs.Common.{◌≡◌, ◌++◌, Bool, drop}
use Rattle.fws_ifcl_rules.specs.UsedPlaces.{spots_from}
use Rattle.fws_ipt_ifcl.specs.Placed.{rules_told}
use Rattle.fws_ipt_ifcl.proofs.spots.put_rule_spots.Given as goal

abbrev pub invariant-loop-rule : goal.invariant-loop-rule
invariant-loop-rule l =
    (on_source : Bool)
    → l.spots.items ++ spots_from l.chain l.at (rules_told l.site on_source l.at l.n (drop l.rule-index l.rules))
    ≡ l.fn.spots.items ++ spots_from l.chain l.first (rules_told l.site on_source l.first l.number l.rules)
