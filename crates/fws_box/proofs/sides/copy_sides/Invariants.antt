use Rattle.std.proofs.Common.{◌≡◌, take, length}
use Rattle.fws_box.proofs.sides.copy_sides.Given as goal

abbrev pub invariant-loop-k : goal.invariant-loop-k
invariant-loop-k l = record {
  twelve : length l.copies ≡ 12;
  made : take l.k l.copies ≡ take l.k l.sides;
}
