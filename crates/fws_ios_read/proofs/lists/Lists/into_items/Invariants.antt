use Rattle.std.proofs.Common.{◌≡◌, ◌++◌, map}
use Rattle.fws_ios_read.specs.Keys.{list_of}
use Rattle.fws_ios_read.proofs.lists.Lists.into_items.Given as goal

abbrev pub invariant-loop-name : goal.invariant-loop-name
invariant-loop-name l = l.lists ++ map list_of l.name-iterator ≡ l.fn.self
