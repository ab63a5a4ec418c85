use Rattle.std.proofs.Common.{◌≡◌, ◌-◌, ◌++◌}
use Rattle.std.specs.List.{range_with_len}
use Rattle.fws_ipfw_print.specs.PrintedText.{numbers_of}
use Rattle.fws_ipfw_print.proofs.values.add_numbers.Given as goal

abbrev pub invariant-loop-n : goal.invariant-loop-n
invariant-loop-n l = l.numbers.items ++ range_with_len l.n (l.n-end - l.n) ≡ l.initial.numbers.items ++ numbers_of l.fn.iv
