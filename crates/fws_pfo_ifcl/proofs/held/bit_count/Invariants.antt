use Rattle.std.proofs.Common.{◌≡◌, ◌+◌}
use Rattle.fws_pfo_ifcl.specs.Held.{bit_count}
use Rattle.fws_pfo_ifcl.proofs.held.bit_count.Given as goal

abbrev pub decreases-loop-left : goal.decreases-loop-left
decreases-loop-left l = l.left

abbrev pub invariant-loop-left : goal.invariant-loop-left
invariant-loop-left l = l.count + bit_count l.left ≡ bit_count l.n
