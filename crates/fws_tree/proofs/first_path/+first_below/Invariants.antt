use Rattle.std.proofs.Common.{◌<◌, drop}
use Rattle.std.specs.List.{AllByRecursion}
use Rattle.fws_tree.proofs.FirstPath.{rows_at, rows_through, IsLeft}
use Rattle.fws_tree.proofs.first_path.+first_below.Given as goal

abbrev pub decreases-first_below : goal.decreases-first_below
decreases-first_below l = l.at

abbrev pub invariant-loop-kid : goal.invariant-loop-kid
invariant-loop-kid l = record {
  below : AllByRecursion (λ k. k.node < l.at) (drop l.kid-index l.kid-items);
  left : IsLeft (rows_at l.sides l.leaves l.nodes l.at) (rows_through l.sides l.field l.leaves l.nodes (drop l.kid-index l.kid-items));
}
