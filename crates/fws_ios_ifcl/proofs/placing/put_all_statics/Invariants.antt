use Rattle.std.proofs.Common.{◌≡◌, ◌++◌, length, drop}
use Rattle.fws_ios_ifcl.specs.Blocks.{statics_from}
use Rattle.fws_ios_ifcl.specs.Placed.{statics_spots}
use Rattle.fws_ios_ifcl.proofs.placing.put_all_statics.Given as goal

abbrev pub invariant-loop-nat : goal.invariant-loop-nat
invariant-loop-nat l = record {
  rules : l.rules.items ++ statics_from l.outward (length l.rules.items) (drop l.nat-index l.nats)
      ≡ l.fn.rules.items ++ statics_from l.outward (length l.fn.rules.items) l.nats;
  spots : l.spots.items ++ statics_spots l.chain l.outward (length l.rules.items) l.next (drop l.nat-index l.nats)
      ≡ l.fn.spots.items ++ statics_spots l.chain l.outward (length l.fn.rules.items) l.first l.nats;
}
