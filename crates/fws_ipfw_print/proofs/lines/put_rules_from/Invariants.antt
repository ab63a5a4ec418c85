use Rattle.std.proofs.Common.{◌≡◌, ◌++◌, drop}
use Rattle.fws_num.specs.Written.{ended}
use Rattle.fws_ipfw_print.specs.PrintedText.{rule_lines}
use Rattle.fws_ipfw_print.proofs.lines.put_rules_from.Given as goal

abbrev pub invariant-loop-r : goal.invariant-loop-r
invariant-loop-r l = l.out ++ ended (rule_lines l.site l.from (drop l.r-index l.rules)) ≡ l.initial.out ++ ended (rule_lines l.site l.first l.rules)
