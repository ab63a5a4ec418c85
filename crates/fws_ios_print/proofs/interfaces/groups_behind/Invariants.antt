use Rattle.std.proofs.Common.{◌≡◌, length}
use Rattle.fws_ios_print.specs.PrintedText.{groups_behind}
use Rattle.fws_ios_print.proofs.interfaces.groups_behind.Given as goal

abbrev pub invariant-loop-left : goal.invariant-loop-left
invariant-loop-left l = groups_behind l.face l.left ≡ groups_behind l.face l.fn.groups

abbrev pub decreases-loop-left : goal.decreases-loop-left
decreases-loop-left l = length l.left
