use Rattle.std.proofs.Common.{take}
use Rattle.fws_exec.specs.Hulls.{AreSettled, HullsGrow}
use Rattle.fws_exec.proofs.hulls.settle.Given as goal

abbrev pub invariant-loop-change : goal.invariant-loop-change
invariant-loop-change l = record {
  grown : HullsGrow l.initial.hulls.items l.hulls.items;
  settled : AreSettled (take l.change-index l.changes) l.area l.initial.hulls.items l.hulls.items;
}
