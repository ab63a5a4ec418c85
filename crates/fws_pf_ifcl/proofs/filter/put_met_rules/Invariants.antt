use Rattle.std.proofs.Common.{◌≡◌, ◌++◌, length, drop}
use Rattle.fws_pf_ifcl.specs.Blocks.{met_rules}
use Rattle.fws_pf_ifcl.proofs.filter.put_met_rules.Given as goal

abbrev pub invariant-loop-rule : goal.invariant-loop-rule
invariant-loop-rule l =
    l.rules.items ++ met_rules l.outward (length l.rules.items) (drop l.rule-index l.filter)
    ≡ l.fn.rules.items ++ met_rules l.outward (length l.fn.rules.items) l.filter
