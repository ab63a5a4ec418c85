use Rattle.std.proofs.Common.{◌≡◌, ℕ, ◌+◌, ◌-◌, ◌<◌, ◌≤◌, drop, length, All}
use Rattle.fws_tree.specs.Held.{child_at}
use Rattle.fws_tree.specs.Merged.{left_at, right_at}
use Rattle.fws_tree.proofs.together.meet_steps.Given as goal

abbrev pub invariant-loop-t : goal.invariant-loop-t
invariant-loop-t l = record {
  i : l.i ≤ length l.xs;
  j : l.j ≤ length l.ys;
  left : (x : ℕ) → left_at l.out.items (child_at (drop l.i l.xs) l.x_last x) x ≡ child_at l.xs l.x_last x;
  right : (x : ℕ) → right_at l.out.items (child_at (drop l.j l.ys) l.y_last x) x ≡ child_at l.ys l.y_last x;
  below : (n m : ℕ) → All (λ s. s.node < n) l.xs → l.x_last < n → All (λ s. s.node < m) l.ys → l.y_last < m → All (λ b. (b.left < n) × (b.right < m)) l.out.items;
}

abbrev pub decreases-loop-t : goal.decreases-loop-t
decreases-loop-t l = (length l.xs + length l.ys) - (l.i + l.j)
