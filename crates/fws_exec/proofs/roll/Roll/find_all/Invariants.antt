use Rattle.std.proofs.Common.{◌≡◌}
use Rattle.fws_exec.proofs.roll.Roll.find_all.Given as goal

abbrev pub invariant-loop-number : goal.invariant-loop-number
invariant-loop-number l = record {
  same : l.self.classes ≡ l.initial.self.classes;
}
