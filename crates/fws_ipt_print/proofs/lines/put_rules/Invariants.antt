use Rattle.std.proofs.Common.{◌≡◌, ◌++◌, map, drop}
use Rattle.fws_net.specs.SiteSpelling.{lines_text}
use Rattle.fws_ipt_print.specs.PrintedText.{rule_line}
use Rattle.fws_ipt_print.proofs.lines.put_rules.Given as goal

abbrev pub invariant-loop-rule : goal.invariant-loop-rule
invariant-loop-rule l =
    l.out ++ lines_text (map (rule_line l.site l.chains l.name) (drop l.rule-index l.rules)) ≡ l.initial.out ++ lines_text (map (rule_line l.site l.chains l.name) l.rules)
