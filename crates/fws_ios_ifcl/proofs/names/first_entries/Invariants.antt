use Rattle.std.proofs.Common.{◌≡◌, ◌++◌, drop}
use Rattle.fws_ios_ifcl.specs.Placed.{first_entries}
use Rattle.fws_ios_ifcl.proofs.names.first_entries.Given as goal

abbrev pub invariant-loop-list : goal.invariant-loop-list
invariant-loop-list l = l.firsts.items ++ first_entries l.next (drop l.list-index l.lists) ≡ first_entries 0 l.lists
