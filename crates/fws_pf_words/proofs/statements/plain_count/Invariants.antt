use Rattle.fws_pf_words.proofs.Reading.{GoesOn}
use Rattle.fws_pf_words.proofs.statements.plain_count.Given as goal

abbrev pub invariant-loop-i : goal.invariant-loop-i
invariant-loop-i l = GoesOn l.bytes l.i
