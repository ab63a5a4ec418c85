use Rattle.std.proofs.Common.{◌≡◌, length}
use Rattle.fws_box.proofs.Meeting.{IsMet}
use Rattle.fws_box.proofs.sides.meet_sides.Given as goal

abbrev pub invariant-loop-k : goal.invariant-loop-k
invariant-loop-k l = record {
  twelve : length l.met ≡ 12;
  made : IsMet l.met l.a l.b l.k;
}
