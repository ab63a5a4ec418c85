use Rattle.std.proofs.Common.{◌≡◌, take, length}
use Rattle.fws_box.specs.Sides.{whole_sides}
use Rattle.fws_box.proofs.sides.whole_sides.Given as goal

abbrev pub invariant-loop-k : goal.invariant-loop-k
invariant-loop-k l = record {
  twelve : length l.sides ≡ 12;
  made : take l.k l.sides ≡ whole_sides (take l.k l.tops);
}
