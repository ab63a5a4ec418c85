use Rattle.std.proofs.Common.{◌≡◌, ◌-◌}
use Rattle.fws_ipt_print.specs.PrintedText.{free_bits, free_from}
use Rattle.fws_ipt_print.proofs.numbers.free_bits.Given as goal

abbrev pub invariant-loop-bits : goal.invariant-loop-bits
invariant-loop-bits l = free_from (33 - l.bits) l.bits l.iv ≡ free_bits l.iv
