use Rattle.std.proofs.Common.{◌≡◌, ◌≢◌, ℕ, true, Some, length, slice_get}
use Rattle.fws_exec.proofs.noting.none_reached.Given as goal

abbrev pub invariant-loop-place : goal.invariant-loop-place
invariant-loop-place l = record {
  none : (k : ℕ) → slice_get l.reached.items k ≢ Some true;
  count : length l.reached.items ≡ l._place;
}
