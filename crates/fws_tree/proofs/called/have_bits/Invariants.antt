use Rattle.std.proofs.Common.{◌≡◌, ◌≢◌, ℕ, true, take, bit_and}
use Rattle.fws_tree.specs.Bits.{bits_in}
use Rattle.fws_tree.specs.Touched.{is_called}
use Rattle.fws_tree.proofs.called.have_bits.Given as goal

abbrev pub invariant-loop-number : goal.invariant-loop-number
invariant-loop-number l = (n : ℕ) → is_called (take l.number-index l.numbers) n ≡ true → bit_and (bits_in l.values n) l.bits ≢ 0
