use Rattle.std.proofs.Common.{◌≡◌, ℕ, ◌<◌, ◌≤◌, true, [], length, get_or}
use Rattle.fws_iv.specs.Ivs.{has}
use Rattle.fws_exec.proofs.hull.Hull.sets.Given as goal

abbrev pub invariant-loop-k : goal.invariant-loop-k
invariant-loop-k l = record {
  twelve : length l.sets ≡ 12;
  done : (j v : ℕ) → j < l.k → get_or l.self.lo j 0 ≤ v → v ≤ get_or l.self.hi j 0 → has (get_or l.sets j []) v ≡ true;
}
