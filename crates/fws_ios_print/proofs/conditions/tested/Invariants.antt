use Rattle.std.proofs.Common.{◌≡◌, length}
use Rattle.fws_ios_print.specs.Printable.{tested}
use Rattle.fws_ios_print.proofs.conditions.tested.Given as goal

abbrev pub invariant-loop-left : goal.invariant-loop-left
invariant-loop-left l = tested l.place l.left ≡ tested l.place l.fn.cond

abbrev pub decreases-loop-left : goal.decreases-loop-left
decreases-loop-left l = length l.left
