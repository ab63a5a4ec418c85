use Rattle.std.proofs.Common.{length, ◌-◌, ◌+◌, ◌≡◌, ◌≤◌, ◌&&◌, ◌||◌, ◌⊎◌, ℕ, drop, not, nat_le}
use Rattle.fws_iv.specs.Ivs.{has, IsRegular, IsRegularFrom, past}
use Rattle.fws_iv.proofs.minus.minus_into.Given as goal

abbrev pub invariant-loop-i : goal.invariant-loop-i
invariant-loop-i g l = record {
  in_a : l.i ≤ length l.a;
  in_b : l.j ≤ length l.b;
  made : IsRegular l.out.items;
  rest_b : IsRegularFrom l.from (drop l.j l.b);
  after : IsRegularFrom (past 0 l.out.items) (drop l.i l.a) ⊎ (past 0 l.out.items ≤ l.from);
  members : (v : ℕ) → (has l.out.items v || ((nat_le l.from v && has (drop l.i l.a) v) && not (has (drop l.j l.b) v))) ≡ (has l.a v && not (has l.b v));
}

abbrev pub decreases-loop-i : goal.decreases-loop-i
decreases-loop-i g l = (length l.a - l.i) + (length l.b - l.j)
