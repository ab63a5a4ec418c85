use Rattle.std.proofs.Common.{◌-◌, ◌≤◌}
use Rattle.fws_exec.proofs.roll.Roll.next_waited.Given as goal

abbrev pub invariant-loop-next : goal.invariant-loop-next
invariant-loop-next l = record {
  low : l.place ≤ l.next;
}

abbrev pub decreases-loop-next : goal.decreases-loop-next
decreases-loop-next l = l.past - l.next
