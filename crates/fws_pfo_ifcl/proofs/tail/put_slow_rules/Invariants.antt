use Rattle.std.proofs.Common.{◌++◌, take}
use Rattle.fws_pfo_ifcl.specs.Blocks.{slow_rulings}
use Rattle.fws_pfo_ifcl.specs.Rulings.{StandFor, rulings_of}
use Rattle.fws_pfo_ifcl.proofs.tail.put_slow_rules.Given as goal

abbrev pub invariant-loop-i : goal.invariant-loop-i
invariant-loop-i l = StandFor (rulings_of l.all ++ slow_rulings l.outward (take l.i l.tail)) (rulings_of l.fn.all ++ slow_rulings l.outward l.tail)
