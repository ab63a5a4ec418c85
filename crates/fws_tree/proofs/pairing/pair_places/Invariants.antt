use Rattle.fws_tree.specs.Building.{AreDifferent}
use Rattle.fws_tree.specs.Paired.{AreLeavesOf}
use Rattle.fws_tree.proofs.pairing.pair_places.Given as goal

abbrev pub invariant-loop-pair : goal.invariant-loop-pair
invariant-loop-pair g l = record {
  different : AreDifferent l.leaves.keys;
  made : AreLeavesOf l.first l.second l.pairs l.leaves.keys l.places.items l.pair-index;
}
