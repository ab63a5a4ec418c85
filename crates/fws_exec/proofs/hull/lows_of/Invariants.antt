use Rattle.std.proofs.Common.{◌≡◌, ℕ, ◌<◌, ◌≤◌, true, [], length, get_or}
use Rattle.fws_iv.specs.Ivs.{has}
use Rattle.fws_tree.specs.Marks.{sides_of}
use Rattle.fws_exec.proofs.hull.lows_of.Given as goal

abbrev pub invariant-loop-k : goal.invariant-loop-k
invariant-loop-k l = record {
  twelve : length l.lows ≡ 12;
  done : (j v : ℕ) → j < l.k → has (get_or (sides_of l.mark) j []) v ≡ true → get_or l.lows j 0 ≤ v;
}
