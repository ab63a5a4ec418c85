use Rattle.std.proofs.Common.{◌≡◌, ℕ, All, take, get_or, bit_and}
use Rattle.fws_tree.proofs.masks.joined.Given as goal

abbrev pub invariant-loop-step : goal.invariant-loop-step
invariant-loop-step l = record {
  last : (wanted : ℕ) → bit_and l.mask wanted ≡ 0 → bit_and (get_or l.masks l.last 0) wanted ≡ 0;
  steps : (wanted : ℕ) → bit_and l.mask wanted ≡ 0 → All (λ s. bit_and (get_or l.masks s.node 0) wanted ≡ 0) (take l.step-index l.steps);
}
