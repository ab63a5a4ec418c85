use Rattle.std.proofs.Common.{◌≡◌, ◌++◌, length, drop}
use Rattle.fws_ios_ifcl.specs.Blocks.{applied_from}
use Rattle.fws_ios_ifcl.specs.Placed.{applied_spots_from}
use Rattle.fws_ios_ifcl.proofs.placing.put_all_applied.Given as goal

abbrev pub invariant-loop-group : goal.invariant-loop-group
invariant-loop-group l = record {
  rules : l.rules.items ++ applied_from l.outward (length l.rules.items) l.lists (drop l.group-index l.groups)
      ≡ l.fn.rules.items ++ applied_from l.outward (length l.fn.rules.items) l.lists l.groups;
  spots : l.spots.items ++ applied_spots_from l.chain l.outward (length l.rules.items) l.lists (drop l.group-index l.groups)
      ≡ l.fn.spots.items ++ applied_spots_from l.chain l.outward (length l.fn.rules.items) l.lists l.groups;
}
