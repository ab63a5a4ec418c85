use Rattle.std.proofs.Common.{◌≡◌, drop}
use Rattle.fws_ios.specs.Walk.{list_named}
use Rattle.fws_ios_put.proofs.tracking.list_named.Given as goal

abbrev pub invariant-loop-list : goal.invariant-loop-list
invariant-loop-list l = list_named l.name (drop l.list-index l.lists) ≡ list_named l.name l.lists
