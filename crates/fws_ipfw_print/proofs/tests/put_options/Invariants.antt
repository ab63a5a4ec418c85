use Rattle.std.proofs.Common.{◌≡◌, ◌++◌, drop}
use Rattle.std.specs.List.{flat_map}
use Rattle.fws_print.specs.Words.{behind_blanks}
use Rattle.fws_ipfw_print.specs.PrintedText.{literal_words}
use Rattle.fws_ipfw_print.proofs.tests.put_options.Given as goal

abbrev pub invariant-loop-lit : goal.invariant-loop-lit
invariant-loop-lit l = l.out ++ behind_blanks (flat_map (literal_words l.site) (drop l.lit-index l.lits)) ≡ l.initial.out ++ behind_blanks (flat_map (literal_words l.site) l.lits)
