use Rattle.std.proofs.Common.{◌≡◌}
use Rattle.fws_ios_put.specs.Layout.{groups_of}
use Rattle.fws_ios_put.proofs.lists.groups_of.Given as goal

abbrev pub invariant-loop-i : goal.invariant-loop-i
invariant-loop-i l = l.groups ≡ groups_of l.site l.leaders l.i
