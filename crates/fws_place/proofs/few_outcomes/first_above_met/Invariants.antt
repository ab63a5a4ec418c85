use Rattle.std.proofs.Common.{◌≤◌, take, length}
use Rattle.fws_place.specs.Counts.{AreDifferent, leaves_of}
use Rattle.fws_place.proofs.Counting.{AreCounted}
use Rattle.fws_place.proofs.few_outcomes.first_above_met.Given as goal

abbrev pub invariant-loop-at : goal.invariant-loop-at
invariant-loop-at g l = record {
  different : AreDifferent l.met.keys;
  counted : AreCounted (leaves_of (take l.at l.rows)) l.met.keys;
  few : length l.met.keys ≤ l.most;
}
