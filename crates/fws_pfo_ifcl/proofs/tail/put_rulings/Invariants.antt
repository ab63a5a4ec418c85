use Rattle.std.proofs.Common.{◌≡◌, ◌++◌, length}
use Rattle.fws_pfo_ifcl.specs.Blocks.{tail_rules}
use Rattle.fws_pfo_ifcl.proofs.tail.put_rulings.Given as goal

abbrev pub invariant-loop-one : goal.invariant-loop-one
invariant-loop-one l = l.rules.items ≡ l.fn.rules.items ++ tail_rules l.outward (length l.fn.rules.items) l.yielded
