use Rattle.std.proofs.Common.{arith}
use Rattle.fws_iv.proofs.WithRange.{with_range-regular}
use Rattle.fws_iv.proofs.law.ranges_are_regular.Goals as goal

pub returns : goal.returns
returns c = λ lo hi s order regular. with_range-regular 0 lo hi s (omega arith) order regular
