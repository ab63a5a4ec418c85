use Rattle.std.proofs.Common.{◌≡◌, length}
use Rattle.std.specs.List.{list_all}
use Rattle.fws_top.specs.Asks.{is_entry, items_of}
use Rattle.fws_top.proofs.ask.are_entries.Given as goal

abbrev pub invariant-loop-item : goal.invariant-loop-item
invariant-loop-item l = list_all (is_entry l.site) (items_of l.rest) ≡ list_all (is_entry l.site) (items_of l.fn.set)

abbrev pub decreases-loop-item : goal.decreases-loop-item
decreases-loop-item l = length l.rest
