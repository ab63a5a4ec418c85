use Rattle.std.proofs.Common.{length, ◌-◌, ◌+◌, ◌≡◌, ◌≤◌, ◌&&◌, ◌||◌, ◌⊎◌, ℕ, drop}
use Rattle.fws_iv.specs.Ivs.{has, IsRegular, IsRegularFrom, past}
use Rattle.fws_iv.proofs.inter.inter_into.Given as goal

abbrev pub invariant-loop-i : goal.invariant-loop-i
invariant-loop-i g l = record {
  in_a : l.i ≤ length l.a;
  in_b : l.j ≤ length l.b;
  made : IsRegular l.out.items;
  after : IsRegularFrom (past 0 l.out.items) (drop l.i l.a) ⊎ IsRegularFrom (past 0 l.out.items) (drop l.j l.b);
  members : (v : ℕ) → (has l.out.items v || (has (drop l.i l.a) v && has (drop l.j l.b) v)) ≡ (has l.a v && has l.b v);
}

abbrev pub decreases-loop-i : goal.decreases-loop-i
decreases-loop-i g l = (length l.a - l.i) + (length l.b - l.j)
