use Rattle.std.proofs.Common.{◌≡◌, ℕ, ◌<◌, drop, All}
use Rattle.fws_tree.specs.Held.{child_at, pick}
use Rattle.fws_tree.specs.Loaded.{named_cell}
use Rattle.fws_tree.proofs.kid_steps.cell_steps.Given as goal

abbrev pub invariant-loop-step : goal.invariant-loop-step
invariant-loop-step l = record {
  value : (x : ℕ) → pick (λ n. n) l.steps.items (named_cell l.at l.rest (child_at (drop l.step-index l.step-items) l.cuts.last x)) x ≡ named_cell l.at l.rest (child_at l.step-items l.cuts.last x);
  below : (n : ℕ) → All (λ c. c < n) l.at → l.rest < n → All (λ s. s.node < n) l.steps.items;
}
