use Rattle.std.proofs.Common.{◌≡◌, ◌++◌, drop}
use Rattle.fws_ipfw_put.specs.Layout.{source_rules}
use Rattle.fws_ipfw_put.proofs.rules.put_sources.Given as goal

abbrev pub invariant-loop-place : goal.invariant-loop-place
invariant-loop-place l = l.rules ++ source_rules l.destinations l.place (drop l.place l.ends) ≡ l.fn.rules ++ source_rules l.destinations 0 l.ends
