use Rattle.std.proofs.Common.{◌≡◌, length}
use Rattle.fws_place.proofs.NearPoints.{AreNearSides}
use Rattle.fws_place.proofs.true_near.near_sides.Given as goal

abbrev pub invariant-loop-k : goal.invariant-loop-k
invariant-loop-k l = record {
  twelve : length l.sides ≡ 12;
  made : AreNearSides l.fields l.tops l.point l.k l.sides;
}
