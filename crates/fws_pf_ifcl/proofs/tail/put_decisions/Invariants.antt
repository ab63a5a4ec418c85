use Rattle.std.proofs.Common.{◌≡◌, ◌++◌, map}
use Rattle.fws_pf_ifcl.specs.Blocks.{rule_of}
use Rattle.fws_pf_ifcl.proofs.tail.put_decisions.Given as goal

abbrev pub invariant-loop-one : goal.invariant-loop-one
invariant-loop-one l = l.rules.items ≡ l.fn.rules.items ++ map rule_of l.yielded
