use Rattle.std.proofs.Common.{◌≡◌, ◌++◌, drop}
use Rattle.fws_print.specs.Words.{behind_blanks}
use Rattle.fws_pf_print.specs.PrintedText.{options_words}
use Rattle.fws_pf_print.proofs.tests.put_options.Given as goal

abbrev pub invariant-loop-lit : goal.invariant-loop-lit
invariant-loop-lit l = l.out ++ behind_blanks (options_words (drop l.lit-index l.cond)) ≡ l.initial.out ++ behind_blanks (options_words l.cond)
