use Rattle.std.proofs.Common.{◌+◌, ◌-◌, length}
use Rattle.fws_exec.specs.Hulls.{HullsGrow}
use Rattle.fws_exec.proofs.hulls.reach.Given as goal

abbrev pub invariant-loop-hulls : goal.invariant-loop-hulls
invariant-loop-hulls l = record {
  grown : HullsGrow l.initial.hulls.items l.hulls.items;
}

abbrev pub decreases-loop-hulls : goal.decreases-loop-hulls
decreases-loop-hulls l = (l.number + 1) - length l.hulls.items
