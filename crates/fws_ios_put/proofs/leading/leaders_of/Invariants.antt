use Rattle.fws_ios_put.specs.Layout.{AreLeaders}
use Rattle.fws_ios_put.proofs.leading.leaders_of.Given as goal

abbrev pub invariant-loop-i : goal.invariant-loop-i
invariant-loop-i l = AreLeaders l.new.1 l.known.1 l.i l.leaders
