use Rattle.std.proofs.Common.{◌≡◌, ◌++◌, length}
use Rattle.fws_num.specs.Written.{ended}
use Rattle.fws_ios_print.specs.PrintedText.{group_lines}
use Rattle.fws_ios_print.proofs.interfaces.put_groups.Given as goal

abbrev pub invariant-loop-left : goal.invariant-loop-left
invariant-loop-left l = l.out ++ ended (group_lines l.face l.left) ≡ l.initial.out ++ ended (group_lines l.face l.fn.groups)

abbrev pub decreases-loop-left : goal.decreases-loop-left
decreases-loop-left l = length l.left
