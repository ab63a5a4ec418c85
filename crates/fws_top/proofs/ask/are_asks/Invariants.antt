use Rattle.std.proofs.Common.{◌≡◌, drop}
use Rattle.fws_top.specs.Asks.{are_asks}
use Rattle.fws_top.proofs.ask.are_asks.Given as goal

abbrev pub invariant-loop-i : goal.invariant-loop-i
invariant-loop-i l = are_asks (drop l.i l.words) ≡ are_asks l.words
