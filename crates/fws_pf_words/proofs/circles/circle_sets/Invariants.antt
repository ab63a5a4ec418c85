use Rattle.fws_pf_words.specs.Circles.{AreSetsOf}
use Rattle.fws_pf_words.proofs.circles.circle_sets.Given as goal

abbrev pub invariant-loop-place : goal.invariant-loop-place
invariant-loop-place l = AreSetsOf l.tables l.sets.items
