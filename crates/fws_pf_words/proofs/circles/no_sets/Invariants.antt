use Rattle.fws_pf_words.specs.Circles.{HasNoSet}
use Rattle.fws_pf_words.proofs.circles.no_sets.Given as goal

abbrev pub invariant-loop-place : goal.invariant-loop-place
invariant-loop-place l = HasNoSet l.sets.items
