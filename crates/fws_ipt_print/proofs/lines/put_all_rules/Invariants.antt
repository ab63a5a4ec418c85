use Rattle.std.proofs.Common.{◌≡◌, ◌++◌, drop}
use Rattle.fws_net.specs.SiteSpelling.{lines_text}
use Rattle.fws_ipt_print.specs.PrintedText.{rule_lines}
use Rattle.fws_ipt_print.proofs.lines.put_all_rules.Given as goal

abbrev pub invariant-loop-chain : goal.invariant-loop-chain
invariant-loop-chain l =
    l.out ++ lines_text (rule_lines l.site l.chains l.table (drop l.chain-index l.chains)) ≡ l.initial.out ++ lines_text (rule_lines l.site l.chains l.table l.chains)
