use Rattle.std.proofs.Common.{◌≡◌, ◌≤◌, ◌<◌, ℕ, length, drop, All}
use Rattle.std.specs.List.{flat_map}
use Rattle.fws_tree.specs.Held.{child_at}
use Rattle.fws_tree.specs.Merged.{left_at, right_at}
use Rattle.fws_tree.specs.Parts.{part_steps, IsPart}
use Rattle.fws_tree.proofs.narrow.ask_ranges.Given as goal

abbrev pub invariant-loop-other : goal.invariant-loop-other
invariant-loop-other l = record {
  order : l.from ≤ length l.steps;
  left : (x : ℕ) → left_at (flat_map (part_steps l.steps) l.parts.items) (child_at (drop l.from l.steps) l.last x) x ≡ child_at l.steps l.last x;
  right : (z x : ℕ) → right_at (flat_map (part_steps l.steps) l.parts.items) (child_at (drop l.other-index l.others) z x) x ≡ child_at l.others z x;
  parts : (n m : ℕ) → All (λ s. s.node < n) l.steps → l.last < n → All (λ s. s.node < m) l.others → All (λ p. IsPart l.skips.masks.now l.skips.wanted l.skips.stay l.steps n m p) l.parts.items;
}
