use Rattle.std.proofs.Common.{◌++◌, take}
use Rattle.fws_join.specs.Deciding.{StandsFor}
use Rattle.fws_pf_ifcl.specs.Blocks.{slow_rules}
use Rattle.fws_pf_ifcl.proofs.tail.put_slow_rules.Given as goal

abbrev pub invariant-loop-i : goal.invariant-loop-i
invariant-loop-i l = StandsFor (l.all ++ slow_rules l.outward (take l.i l.tail)) (l.fn.all ++ slow_rules l.outward l.tail)
