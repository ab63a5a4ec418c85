use Rattle.std.proofs.Common.{◌≡◌, take, length}
use Rattle.fws_box.specs.Boxes.{sides_of}
use Rattle.fws_box.proofs.pbox.PBox.to_sides.Given as goal

abbrev pub invariant-loop-k : goal.invariant-loop-k
invariant-loop-k l = record {
  twelve : length l.sides ≡ 12;
  own : length l.self.sides ≡ 12;
  made : take l.k l.sides ≡ take l.k (sides_of l.self);
}
