use Rattle.std.proofs.Common.{◌-◌, ◌≤◌}
use Rattle.fws_exec.specs.Looks.{GoesOn}
use Rattle.fws_exec.proofs.errand.Errand.onward.Given as goal

abbrev pub invariant-loop-at : goal.invariant-loop-at
invariant-loop-at l = record {
  low : l.place ≤ l.at;
  high : l.at ≤ l.self.part.past;
  goes : GoesOn l.self l.reached l.look l.progress l.place l.at;
}

abbrev pub decreases-loop-at : goal.decreases-loop-at
decreases-loop-at l = l.self.part.past - l.at
