use Rattle.fws_test_trees.specs.Small.{IsSmall}
use Rattle.fws_test_trees.proofs.canvases.agrees_always.Given as goal

abbrev pub invariant-times : goal.invariant-times
invariant-times l = IsSmall l.canvas
