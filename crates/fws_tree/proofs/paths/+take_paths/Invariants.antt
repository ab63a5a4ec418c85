use Rattle.std.proofs.Common.{◌≡◌, ◌<◌, ◌++◌, List, [], drop}
use Rattle.std.specs.List.{AllByRecursion}
use Rattle.fws_tree.specs.declared.row.Row.{Row}
use Rattle.fws_tree.specs.Rows.{paths_below, paths_through}
use Rattle.fws_tree.specs.Nodes.{tree_of, trees_after, kids_over, relabel, relabel_kids}
use Rattle.fws_tree.proofs.paths.+take_paths.Given as goal

abbrev pub decreases-take_paths : goal.decreases-take_paths
decreases-take_paths g l = l.at

abbrev pub invariant-loop-kid : goal.invariant-loop-kid
invariant-loop-kid g l = record {
  below : AllByRecursion (λ k. k.node < l.at) (drop l.kid-index l.kid-items);
  back : l.sides ≡ l.fn.sides;
  taken : (rows : List (Row g.row.L.Denot)) × g.T.TakesRows.took l.fn.by l.by rows
      × (rows ++ paths_through l.fn.sides l.field (relabel_kids l.leaves (kids_over (trees_after [] l.nodes) (drop l.kid-index l.kid-items)))
      ≡ paths_below l.fn.sides (relabel l.leaves (tree_of l.nodes l.at)));
}
