use Rattle.std.proofs.Common.{◌≡◌, ◌++◌, length, drop, false}
use Rattle.fws_pfo_ifcl.specs.Blocks.{met_rules}
use Rattle.fws_pfo_ifcl.proofs.filter.put_met_rules.Given as goal

abbrev pub invariant-loop-rule : goal.invariant-loop-rule
invariant-loop-rule l =
    l.rules.items ++ met_rules l.frame l.may_hold (length l.rules.items) (drop l.rule-index l.head)
    ≡ l.fn.rules.items ++ met_rules l.frame false (length l.fn.rules.items) l.head
