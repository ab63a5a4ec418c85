use Rattle.std.proofs.Common.{◌≡◌, ◌≤◌, ◌+◌, ◌-◌, ◌%◌, ◌&&◌, ◌||◌, ℕ, nat_le, nat_lt}
use Rattle.fws_iv.specs.Ivs.{has}
use Rattle.fws_box_conditions.proofs.members.add_range.Given as goal

abbrev pub decreases-loop-from : goal.decreases-loop-from
decreases-loop-from l = l.hi - l.from

abbrev pub invariant-loop-from : goal.invariant-loop-from
invariant-loop-from l = record {
  behind : l.lo ≤ l.from;
  ahead : l.from ≤ l.hi;
  so_far : (a : ℕ) → has l.out a ≡ (has l.fn.out a || ((nat_le l.lo a && nat_lt a l.from) && has l.set (l.base + a % l.size)));
}
