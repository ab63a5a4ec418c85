use Rattle.fws_tree.specs.Building.{AreDifferent, Extends}
use Rattle.fws_tree.proofs.MadeLeaves.{AreMade}
use Rattle.fws_tree.proofs.other_leaves.made_places.Given as goal

abbrev pub invariant-loop-leaf : goal.invariant-loop-leaf
invariant-loop-leaf g l = record {
  extends : Extends l.fn.made.keys l.made.keys;
  different : AreDifferent l.made.keys;
  made : AreMade (g.R.Relabelling.gives l.by) l.leaves l.made.keys l.places.items l.leaf-index;
}
