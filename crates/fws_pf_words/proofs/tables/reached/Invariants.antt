use Rattle.std.proofs.Common.{◌-◌, length}
use Rattle.fws_pf_words.specs.Reached.{IsReached}
use Rattle.fws_pf_words.proofs.tables.reached.Given as goal

abbrev pub invariant-loop-next : goal.invariant-loop-next
invariant-loop-next l = IsReached l.tables l.name l.places.keys l.next

abbrev pub decreases-loop-next : goal.decreases-loop-next
decreases-loop-next l = length l.tables - l.next
