use Rattle.std.proofs.Common.{◌≡◌, length}
use Rattle.fws_ios_print.specs.Order.{precedes}
use Rattle.fws_ios_print.proofs.order.precedes.Given as goal

abbrev pub invariant-loop-right : goal.invariant-loop-right
invariant-loop-right l = precedes l.left l.right ≡ precedes l.fn.a l.fn.b

abbrev pub decreases-loop-right : goal.decreases-loop-right
decreases-loop-right l = length l.right
