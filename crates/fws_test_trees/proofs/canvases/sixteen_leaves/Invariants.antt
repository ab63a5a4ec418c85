use Rattle.std.proofs.Common.{◌≡◌, length}
use Rattle.fws_test_trees.proofs.canvases.sixteen_leaves.Given as goal

abbrev pub invariant-loop-number : goal.invariant-loop-number
invariant-loop-number l = length l.leaves.items ≡ l.number
