use Rattle.std.proofs.Common.{◌≡◌, length}
use Rattle.fws_num.specs.Written.{has_slashes}
use Rattle.fws_ipfw_print.proofs.tests.has_slashes.Given as goal

abbrev pub invariant-loop-left : goal.invariant-loop-left
invariant-loop-left l = has_slashes l.left ≡ has_slashes l.fn.text

abbrev pub decreases-loop-left : goal.decreases-loop-left
decreases-loop-left l = length l.left
