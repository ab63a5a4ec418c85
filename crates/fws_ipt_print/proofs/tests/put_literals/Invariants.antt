use Rattle.std.proofs.Common.{◌≡◌, ◌++◌, drop}
use Rattle.std.specs.List.{flat_map}
use Rattle.fws_print.specs.Words.{behind_blanks}
use Rattle.fws_ipt_print.specs.PrintedText.{literal_words}
use Rattle.fws_ipt_print.proofs.tests.put_literals.Given as goal

abbrev pub invariant-loop-lit : goal.invariant-loop-lit
invariant-loop-lit l =
    l.out ++ behind_blanks (flat_map (literal_words l.site l.cond) (drop l.lit-index l.cond)) ≡ l.initial.out ++ behind_blanks (flat_map (literal_words l.site l.cond) l.cond)
