use Rattle.std.proofs.Common.{◌≡◌, ℕ, ◌<◌, ◌≤◌, max, length, get_or}
use Rattle.fws_exec.proofs.hull.larger_of.Given as goal

abbrev pub invariant-loop-k : goal.invariant-loop-k
invariant-loop-k l = record {
  twelve : length l.greatest ≡ 12;
  done : (j : ℕ) → j < l.k → get_or l.greatest j 0 ≡ max (get_or l.a j 0) (get_or l.b j 0);
  left : (j : ℕ) → l.k ≤ j → get_or l.greatest j 0 ≡ get_or l.a j 0;
}
