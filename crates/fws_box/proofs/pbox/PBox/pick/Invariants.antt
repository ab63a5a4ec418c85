use Rattle.std.proofs.Common.{◌≡◌, length}
use Rattle.fws_box.specs.Boxes.{sides_of}
use Rattle.fws_box.proofs.SideBySide.{ChosenBelow}
use Rattle.fws_box.proofs.pbox.PBox.pick.Given as goal

abbrev pub invariant-loop-k : goal.invariant-loop-k
invariant-loop-k l = record {
  twelve : length l.point ≡ 12;
  chosen : ChosenBelow l.k (sides_of l.self) l.point;
}
