use Rattle.std.proofs.Common.{◌≡◌, ◌++◌, drop}
use Rattle.fws_ipfw_ifcl.specs.Placed.{counted}
use Rattle.fws_ipfw_ifcl.proofs.counts.counted.Given as goal

abbrev pub invariant-loop-rule : goal.invariant-loop-rule
invariant-loop-rule l = l.all.items ++ counted (drop l.rule-index l.rules) ≡ counted l.rules
