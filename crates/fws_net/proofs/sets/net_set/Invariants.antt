use Rattle.std.proofs.Common.{◌≡◌, ◌++◌, drop, map}
use Rattle.fws_iv.specs.Ivs.{AreRanges}
use Rattle.fws_net.specs.Faces.{net_range}
use Rattle.fws_net.proofs.sets.net_set.Given as goal

abbrev pub invariant-loop-own : goal.invariant-loop-own
invariant-loop-own l = record {
  so_far : l.ranges.items ++ map net_range (drop l.own-index l.own-items) ≡ map net_range l.own-items;
  sound : AreRanges l.ranges.items;
}
