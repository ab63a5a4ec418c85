use Rattle.std.proofs.Common.{◌≡◌, ◌<◌, ◌≤◌, ℕ, ◌+◌, ◌%◌, ◌^◌, min, length}
use Rattle.fws_iv.specs.Prefixes.{AddsRange, EndBy}
use Rattle.fws_iv.proofs.prefix_list.put_shrinking.Given as goal

abbrev pub invariant-loop-bits : goal.invariant-loop-bits
invariant-loop-bits l = record {
  short : l.bits ≤ 33;
  reached : l.from ≤ l.next;
  within : l.next ≤ l.end;
  left : l.end < l.next + 2 ^ l.bits;
  aligned : (b : ℕ) → l.next + 2 ^ b ≤ l.end → l.next % 2 ^ b ≡ 0;
  ends : EndBy l.next l.out.items;
  members : AddsRange l.initial.out.items l.out.items l.from l.next;
  few : (b : ℕ) → b ≤ 33 → l.end < l.from + 2 ^ b → length l.out.items + min l.bits b ≤ length l.initial.out.items + b;
}

abbrev pub decreases-loop-bits : goal.decreases-loop-bits
decreases-loop-bits l = l.bits
