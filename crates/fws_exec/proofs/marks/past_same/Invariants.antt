use Rattle.std.proofs.Common.{◌≡◌, ◌+◌, ◌-◌, ◌≤◌, ℕ, false, drop, length}
use Rattle.fws_net.specs.declared.view.View.{View}
use Rattle.fws_net.specs.Conditions.{holds}
use Rattle.fws_exec.specs.Runs.{numbered, picked}
use Rattle.fws_exec.proofs.marks.past_same.Given as goal

abbrev pub invariant-loop-past : goal.invariant-loop-past
invariant-loop-past l = record {
  later : l.from ≤ l.past;
  within : l.past ≤ length l.code;
  picked : (v : View) (place : ℕ) → holds l.cond v ≡ false → picked place v (drop l.from l.code) ≡ picked place v (drop l.past l.code);
  numbered : (v : View) → holds l.cond v ≡ false → numbered (l.from + 1) v (drop l.from l.code) ≡ numbered (l.past + 1) v (drop l.past l.code);
}

abbrev pub decreases-loop-past : goal.decreases-loop-past
decreases-loop-past l = length l.code - l.past
