use Rattle.std.proofs.Common.{◌≢◌, ℕ, ◌<◌, ◌≤◌, false, Some, slice_get}
use Rattle.fws_exec.proofs.noting.are_sought.Given as goal

abbrev pub invariant-loop-at : goal.invariant-loop-at
invariant-loop-at l = (k : ℕ) → l.place ≤ k → k < l.at → slice_get l.reached k ≢ Some false
