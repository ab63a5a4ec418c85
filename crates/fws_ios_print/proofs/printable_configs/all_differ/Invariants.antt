use Rattle.std.proofs.Common.{◌≡◌, length}
use Rattle.fws_ios.specs.Soundness.{are_apart}
use Rattle.fws_ios_print.proofs.printable_configs.all_differ.Given as goal

abbrev pub invariant-loop-left : goal.invariant-loop-left
invariant-loop-left l = are_apart l.left ≡ are_apart l.fn.lists

abbrev pub decreases-loop-left : goal.decreases-loop-left
decreases-loop-left l = length l.left
