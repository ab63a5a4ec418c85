use Rattle.std.proofs.Common.{◌≡◌, length, drop}
use Rattle.fws_box.specs.Boxes.{sides_of}
use Rattle.fws_box.specs.Sides.{sides_have}
use Rattle.fws_box.proofs.pbox.PBox.has.Given as goal

abbrev pub invariant-loop-k : goal.invariant-loop-k
invariant-loop-k l = record {
  twelve : length l.self.sides ≡ 12;
  left : sides_have (drop l.k (sides_of l.self)) (drop l.k l.p) ≡ sides_have (sides_of l.self) l.p;
}
