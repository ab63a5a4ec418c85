use Rattle.std.proofs.Common.{◌≡◌, length}
use Rattle.fws_ipfw.specs.Soundness.{are_ordered}
use Rattle.fws_ipfw_print.proofs.printable_configs.are_ordered.Given as goal

abbrev pub invariant-loop-left : goal.invariant-loop-left
invariant-loop-left l = are_ordered l.left ≡ are_ordered l.fn.rules

abbrev pub decreases-loop-left : goal.decreases-loop-left
decreases-loop-left l = length l.left
