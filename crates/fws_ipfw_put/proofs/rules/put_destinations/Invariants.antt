use Rattle.std.proofs.Common.{◌≡◌, ◌++◌, drop}
use Rattle.fws_ipfw_put.specs.Layout.{destination_rules}
use Rattle.fws_ipfw_put.proofs.rules.put_destinations.Given as goal

abbrev pub invariant-loop-place : goal.invariant-loop-place
invariant-loop-place l = l.rules ++ destination_rules l.place (drop l.place l.ends) ≡ l.fn.rules ++ destination_rules 0 l.ends
