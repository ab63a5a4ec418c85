use Rattle.std.proofs.Common.{◌++◌, drop}
use Rattle.fws_pfo_ifcl.specs.Blocks.{quick_rulings}
use Rattle.fws_pfo_ifcl.specs.Rulings.{StandFor, rulings_of}
use Rattle.fws_pfo_ifcl.proofs.tail.put_quick_rules.Given as goal

abbrev pub invariant-loop-rule : goal.invariant-loop-rule
invariant-loop-rule l = StandFor (rulings_of l.all ++ quick_rulings l.outward (drop l.rule-index l.tail)) (rulings_of l.fn.all ++ quick_rulings l.outward l.tail)
