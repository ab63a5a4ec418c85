use Rattle.std.proofs.Common.{◌≡◌, ◌++◌, drop}
use Rattle.fws_ifcl.specs.Refusals.{all_named}
use Rattle.fws_unfold.proofs.calls.all_named.Given as goal

abbrev pub invariant-loop-rule : goal.invariant-loop-rule
invariant-loop-rule l = l.names ++ all_named (drop l.rule-index l.rules) ≡ all_named l.rules
