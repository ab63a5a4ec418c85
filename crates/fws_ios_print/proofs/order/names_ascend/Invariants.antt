use Rattle.std.proofs.Common.{◌≡◌, [], length}
use Rattle.fws_ios_print.specs.Order.{names_ascend}
use Rattle.fws_ios_print.proofs.order.names_ascend.Given as goal

abbrev pub invariant-loop-left : goal.invariant-loop-left
invariant-loop-left l = names_ascend l.name l.left ≡ names_ascend [] l.fn.lists

abbrev pub decreases-loop-left : goal.decreases-loop-left
decreases-loop-left l = length l.left
