use Rattle.std.proofs.Common.{◌≡◌, ℕ, ◌+◌, length}
use Rattle.fws_ipt_put_chains.specs.Comings.{both, coming_at, IsCovered}
use Rattle.fws_ipt_put_chains.proofs.coming.first_comings.Given as goal

abbrev pub invariant-loop-i : goal.invariant-loop-i
invariant-loop-i l = record {
  size : length l.comings.items ≡ l.i;
  last : (k : ℕ) → length l.nodes ≡ k + 1 → IsCovered both (coming_at l.comings.items k);
}
