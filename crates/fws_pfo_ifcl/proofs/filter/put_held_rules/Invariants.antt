use Rattle.std.proofs.Common.{◌≡◌, ◌++◌, length, drop}
use Rattle.fws_pfo_ifcl.specs.Blocks.{held_rules}
use Rattle.fws_pfo_ifcl.proofs.filter.put_held_rules.Given as goal

abbrev pub invariant-loop-end : goal.invariant-loop-end
invariant-loop-end l =
    l.rules.items ++ held_rules l.frame (length l.rules.items) l.number (drop l.end-index l.end-items)
    ≡ l.fn.rules.items ++ held_rules l.frame (length l.fn.rules.items) 1 l.frame.ends
