use Rattle.std.proofs.Common.{◌≡◌, length}
use Rattle.fws_pf_print.specs.PrintedText.{ends_in_digit}
use Rattle.fws_pf_print.proofs.tests.ends_in_digit.Given as goal

abbrev pub invariant-loop-left : goal.invariant-loop-left
invariant-loop-left l = ends_in_digit l.left ≡ ends_in_digit l.fn.text

abbrev pub decreases-loop-left : goal.decreases-loop-left
decreases-loop-left l = length l.left
