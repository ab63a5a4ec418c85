use Rattle.std.proofs.Common.{◌≡◌, ℕ, ◌<◌, ◌≤◌, true, [], length, get_or}
use Rattle.fws_iv.specs.Ivs.{has}
use Rattle.fws_tree.specs.Marks.{sides_of}
use Rattle.fws_exec.proofs.hull.highs_of.Given as goal

abbrev pub invariant-loop-k : goal.invariant-loop-k
invariant-loop-k l = record {
  twelve : length l.highs ≡ 12;
  done : (j v : ℕ) → j < l.k → has (get_or (sides_of l.mark) j []) v ≡ true → v ≤ get_or l.highs j 0;
}
