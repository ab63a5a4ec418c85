use Rattle.std.proofs.Common.{◌≡◌, ◌≤◌, ◌<◌, ◌++◌, ℕ, map, All}
use Rattle.std.specs.Prelude.{slice_range}
use Rattle.std.specs.List.{flat_map}
use Rattle.fws_tree.specs.Parts.{Stays, both_with, part_steps, IsPart}
use Rattle.fws_tree.proofs.narrow.ask_all.Given as goal

abbrev pub invariant-loop-at : goal.invariant-loop-at
invariant-loop-at l = record {
  order : (l.fn.from ≤ l.begin) × (l.begin ≤ l.at);
  run : All (λ s. Stays l.skips.masks.now l.skips.wanted l.skips.stay s.node l.right) (slice_range l.steps l.begin l.at);
  steps : flat_map (part_steps l.steps) l.parts.items ++ map (both_with l.right) (slice_range l.steps l.begin l.at) ≡ flat_map (part_steps l.steps) l.fn.parts.items ++ map (both_with l.right) (slice_range l.steps l.fn.from l.at);
  parts : (n m : ℕ) → All (λ s. s.node < n) l.steps → l.right < m → All (λ p. IsPart l.skips.masks.now l.skips.wanted l.skips.stay l.steps n m p) l.fn.parts.items
      → All (λ p. IsPart l.skips.masks.now l.skips.wanted l.skips.stay l.steps n m p) l.parts.items;
}
