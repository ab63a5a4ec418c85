use Rattle.std.proofs.Common.{◌≡◌, ◌++◌, length, drop}
use Rattle.fws_ios_ifcl.specs.Placed.{asking_from, asking_spots_from}
use Rattle.fws_ios_ifcl.proofs.placing.put_all_asking.Given as goal

abbrev pub invariant-loop-nat : goal.invariant-loop-nat
invariant-loop-nat l = record {
  rules : l.rules.items ++ asking_from (length l.rules.items) l.lists (drop l.nat-index l.nats)
      ≡ l.fn.rules.items ++ asking_from (length l.fn.rules.items) l.lists l.nats;
  spots : l.spots.items ++ asking_spots_from l.chain (length l.rules.items) l.lists l.next (drop l.nat-index l.nats)
      ≡ l.fn.spots.items ++ asking_spots_from l.chain (length l.fn.rules.items) l.lists l.first l.nats;
}
