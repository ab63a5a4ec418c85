use Rattle.std.proofs.Common.{◌++◌, drop}
use Rattle.fws_join.specs.Deciding.{StandsFor}
use Rattle.fws_pf_ifcl.specs.Blocks.{quick_rules}
use Rattle.fws_pf_ifcl.proofs.tail.put_quick_rules.Given as goal

abbrev pub invariant-loop-rule : goal.invariant-loop-rule
invariant-loop-rule l = StandsFor (l.all ++ quick_rules l.outward (drop l.rule-index l.tail)) (l.fn.all ++ quick_rules l.outward l.tail)
