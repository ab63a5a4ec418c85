use Rattle.std.proofs.Common.{◌≡◌, ◌+◌, drop}
use Rattle.fws_tree.specs.PathCounts.{kid_sum}
use Rattle.fws_tree.proofs.row_count.kid_sum.Given as goal

abbrev pub invariant-loop-kid : goal.invariant-loop-kid
invariant-loop-kid l = record {
  left : l.sum + kid_sum l.counts (drop l.kid-index l.kids) ≡ kid_sum l.counts l.kids;
}
