use Rattle.std.proofs.Common.{◌≡◌, ◌≤◌, ◌+◌, ◌%◌, ◌^◌, length}
use Rattle.fws_iv.specs.Prefixes.{AddsRange, EndBy}
use Rattle.fws_iv.proofs.prefix_list.put_growing.Given as goal

abbrev pub invariant-loop-bits : goal.invariant-loop-bits
invariant-loop-bits l = record {
  reached : l.from ≤ l.next;
  within : l.next ≤ l.end;
  aligned : l.next % 2 ^ l.bits ≡ 0;
  ends : EndBy l.next l.out.items;
  members : AddsRange l.initial.out.items l.out.items l.from l.next;
  few : length l.out.items + l.from ≤ length l.initial.out.items + l.next;
  count : length l.out.items ≤ length l.initial.out.items + l.bits;
}
