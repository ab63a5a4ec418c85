use Rattle.std.proofs.Common.{◌≡◌, ℕ, ◌≤◌, take, vec_len}
use Rattle.std.specs.Prelude.{All}
use Rattle.fws_ipt_put_chains.specs.Comings.{narrowed, coming_at, IsCovered}
use Rattle.fws_ipt_put_chains.proofs.coming.flow.Given as goal

abbrev pub invariant-loop-kid : goal.invariant-loop-kid
invariant-loop-kid l = record {
  size : vec_len l.comings ≡ vec_len l.initial.comings;
  later : (k : ℕ) → l.at ≤ k → coming_at l.comings.items k ≡ coming_at l.initial.comings.items k;
  grows : (k : ℕ) → IsCovered (coming_at l.initial.comings.items k) (coming_at l.comings.items k);
  flows : All (λ kid. IsCovered (narrowed l.f kid.set l.here) (coming_at l.comings.items kid.node)) (take l.kid-index l.kids);
}
