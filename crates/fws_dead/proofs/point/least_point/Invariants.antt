use Rattle.std.proofs.Common.{◌≡◌, ℕ, ◌<◌, true, [], length, get_or}
use Rattle.fws_iv.specs.Ivs.{has}
use Rattle.fws_dead.proofs.point.least_point.Given as goal

abbrev pub invariant-loop-k : goal.invariant-loop-k
invariant-loop-k l = record {
  twelve : length l.point ≡ 12;
  members : (k : ℕ) → k < l.k → has (get_or l.sides k []) (get_or l.point k 0) ≡ true;
}
