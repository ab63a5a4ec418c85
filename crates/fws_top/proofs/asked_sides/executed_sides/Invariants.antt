use Rattle.std.proofs.Common.{◌≡◌, length}
use Rattle.fws_top.proofs.Widening.{HaveMembers}
use Rattle.fws_top.proofs.asked_sides.executed_sides.Given as goal

abbrev pub invariant-loop-k : goal.invariant-loop-k
invariant-loop-k l = record {
  twelve : length l.wider ≡ 12;
  made : HaveMembers l.wider l.sides l.k;
}
