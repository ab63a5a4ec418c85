use Rattle.fws_pf_words.specs.Circles.{IsBack}
use Rattle.fws_pf_words.proofs.circles.leading_back.Given as goal

abbrev pub invariant-loop-i : goal.invariant-loop-i
invariant-loop-i l = IsBack l.tables l.name l.places l.back.keys
