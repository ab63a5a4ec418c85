use Rattle.std.proofs.Common.{◌≡◌, length}
use Rattle.fws_tree.specs.PathCounts.{AreCounted}
use Rattle.fws_tree.proofs.row_count.path_counts.Given as goal

abbrev pub invariant-loop-node : goal.invariant-loop-node
invariant-loop-node g l = record {
  many : length l.counts.items ≡ l.node-index;
  counted : AreCounted l.leaves l.nodes l.counts.items;
}
