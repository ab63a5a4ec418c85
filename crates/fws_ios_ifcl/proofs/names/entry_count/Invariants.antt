use Rattle.std.proofs.Common.{◌≡◌, ◌+◌, drop}
use Rattle.fws_ios_ifcl.proofs.Counted.{entries_in}
use Rattle.fws_ios_ifcl.proofs.names.entry_count.Given as goal

abbrev pub invariant-loop-list : goal.invariant-loop-list
invariant-loop-list l = l.count + entries_in (drop l.list-index l.lists) ≡ entries_in l.lists
