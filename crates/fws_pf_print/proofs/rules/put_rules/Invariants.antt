use Rattle.std.proofs.Common.{◌≡◌, ◌++◌, drop}
use Rattle.fws_num.specs.Written.{ended}
use Rattle.fws_pf_print.specs.PrintedText.{rule_lines}
use Rattle.fws_pf_print.proofs.rules.put_rules.Given as goal

abbrev pub invariant-loop-r : goal.invariant-loop-r
invariant-loop-r l = l.out ++ ended (rule_lines l.site (drop l.r-index l.rules)) ≡ l.initial.out ++ ended (rule_lines l.site l.rules)
