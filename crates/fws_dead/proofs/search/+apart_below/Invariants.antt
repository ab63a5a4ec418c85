use Rattle.std.proofs.Common.{ℕ, ◌-◌, ◌<◌, List, length, drop}
use Rattle.std.specs.List.{AllByRecursion}
use Rattle.fws_tree.specs.Shared.{IsShared, subtree_of}
use Rattle.fws_dead.specs.Rows.{IsRow}
use Rattle.fws_dead.proofs.Finding.{ArePassed}
use Rattle.fws_dead.proofs.search.+apart_below.Given as goal

abbrev pub decreases-apart_below : goal.decreases-apart_below
decreases-apart_below l = l.at

abbrev pub invariant-loop-kid : goal.invariant-loop-kid
invariant-loop-kid l = record {
  below : AllByRecursion (λ k. k.node < l.at) (drop l.kid-index l.kid-items);
  passed : (tops : List ℕ) → IsShared tops (subtree_of l.leaves l.nodes (length l.nodes - 1)) l.leaves l.nodes → IsRow tops l.sides
      → ArePassed l.state tops l.leaves l.nodes l.sides l.field l.kid-items l.kid-index;
}
