use Rattle.std.proofs.Common.{◌≡◌, suc, ◌/◌, arith}
use Rattle.fws_pfo_ifcl.specs.Held.{bit_count}
use Rattle.fws_pfo_ifcl.proofs.Bits.{bits_more}
use Rattle.fws_pfo_ifcl.proofs.held.bit_count.Goals as goal

pub loop-left-preserved : goal.loop-left-preserved
loop-left-preserved c =
    let left = c.loop-left.left in
    let more : bit_count left ≡ suc (bit_count (left / 2)) = bits_more left c.loop-left-test.true in
    omega (arith, more, c.in_ok-count.ensures, c.loop-left.invariant)
