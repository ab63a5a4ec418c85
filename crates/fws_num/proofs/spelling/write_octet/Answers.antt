use Rattle.std.proofs.Common.{arith, ◌≤◌, length}
use Rattle.std.specs.Fmt.{decimal}
use Rattle.std.proofs.lemmas.Fmt.{length-decimal-le}
use Rattle.fws_num.proofs.spelling.write_octet.Goals as goal

pub write_digits-requires : goal.write_digits-requires
write_digits-requires c =
    let short : length (decimal c.from.result) ≤ 3 = length-decimal-le 3 c.from.result (omega arith) (omega arith) (omega arith) in
    (omega arith, c.requires.within)

pub returns-clause-near : goal.returns-clause-near
returns-clause-near c = omega (arith, length-decimal-le 3 c.from.result (omega arith) (omega arith) (omega arith))
