use Rattle.std.proofs.Common.{◌≡◌, ◌++◌, drop}
use Rattle.std.specs.List.{flat_map}
use Rattle.fws_dead.specs.RuleText.{rule_line}
use Rattle.fws_dead.proofs.rules.put_rules.Given as goal

abbrev pub invariant-loop-n : goal.invariant-loop-n
invariant-loop-n l = l.out ++ flat_map (rule_line l.labels) (drop l.n-index l.numbers) ≡ l.fn.out ++ flat_map (rule_line l.labels) l.numbers
