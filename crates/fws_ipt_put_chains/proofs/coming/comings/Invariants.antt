use Rattle.std.proofs.Common.{◌≡◌, ℕ, ◌+◌, ◌<◌, ◌≤◌, length}
use Rattle.fws_ipt_put_chains.specs.Comings.{both, coming_at, IsCovered, Flows}
use Rattle.fws_ipt_put_chains.proofs.coming.comings.Given as goal

abbrev pub invariant-loop-k : goal.invariant-loop-k
invariant-loop-k l = record {
  within : l.k ≤ length l.nodes;
  size : length l.comings.items ≡ length l.nodes;
  last : (k : ℕ) → length l.nodes ≡ k + 1 → IsCovered both (coming_at l.comings.items k);
  flows : (k : ℕ) → l.k ≤ k → k < length l.nodes → Flows l.nodes l.comings.items k;
}

abbrev pub decreases-loop-k : goal.decreases-loop-k
decreases-loop-k l = l.k
