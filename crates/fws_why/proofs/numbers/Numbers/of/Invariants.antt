use Rattle.std.proofs.Common.{take}
use Rattle.fws_why.specs.Numbers.{AreNumbersOf}
use Rattle.fws_why.proofs.numbers.Numbers.of.Given as goal

abbrev pub invariant-loop-spot : goal.invariant-loop-spot
invariant-loop-spot l = AreNumbersOf l.numbers (take l.spot-index l.spots)
