use Rattle.std.proofs.Common.{◌≤◌, ◌<◌, ◌-◌, length, All}
use Rattle.std.specs.Prelude.{slice_range}
use Rattle.fws_tree.proofs.narrow.reach.Given as goal

abbrev pub invariant-loop-at : goal.invariant-loop-at
invariant-loop-at l = record {
  order : (l.fn.from ≤ l.at) × (l.at ≤ length l.steps);
  below : All (λ s. s.hi < l.value) (slice_range l.steps l.fn.from l.at);
}

abbrev pub decreases-loop-at : goal.decreases-loop-at
decreases-loop-at l = length l.steps - l.at
