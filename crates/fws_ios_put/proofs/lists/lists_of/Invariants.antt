use Rattle.std.proofs.Common.{◌+◌}
use Rattle.fws_ios_put.specs.Layout.{AreLists}
use Rattle.fws_ios_put.proofs.lists.lists_of.Given as goal

abbrev pub invariant-loop-i : goal.invariant-loop-i
invariant-loop-i l = AreLists l.site l.new.1 l.known.1 l.leaders (l.i + 1) l.lists
