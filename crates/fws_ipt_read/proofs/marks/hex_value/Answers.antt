use Rattle.std.proofs.Common.{◌≤◌, ◌^◌, arith}
use Rattle.std.proofs.Math.Nat.{pow-le-pow_right}
use Rattle.fws_ipt_read.proofs.marks.hex_value.Goals as goal

pub overflow_mul-value : goal.overflow_mul-value
overflow_mul-value c =
    let room : 16 ^ c.loop-c.c-index ≤ 16 ^ 15 = pow-le-pow_right {n = 16} (omega arith) {i = c.loop-c.c-index} {j = 15} (omega arith) in omega arith

pub overflow_add-value : goal.overflow_add-value
overflow_add-value c =
    let room : 16 ^ c.loop-c.c-index ≤ 16 ^ 15 = pow-le-pow_right {n = 16} (omega arith) {i = c.loop-c.c-index} {j = 15} (omega arith) in
    omega (arith, c.in_ok-digit.ensures.small)
