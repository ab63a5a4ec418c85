use Rattle.std.proofs.Common.{◌≡◌, ◌++◌, drop}
use Rattle.fws_net.specs.SiteSpelling.{lines_text}
use Rattle.fws_ipt_print.specs.PrintedText.{chain_lines}
use Rattle.fws_ipt_print.proofs.lines.put_all_chains.Given as goal

abbrev pub invariant-loop-chain : goal.invariant-loop-chain
invariant-loop-chain l = l.out ++ lines_text (chain_lines l.table (drop l.chain-index l.chains)) ≡ l.initial.out ++ lines_text (chain_lines l.table l.chains)
