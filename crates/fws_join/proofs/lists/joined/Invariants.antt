use Rattle.fws_join.specs.Deciding.{StandsFor}
use Rattle.fws_join.proofs.lists.joined.Given as goal

abbrev pub invariant-loop-round : goal.invariant-loop-round
invariant-loop-round l = StandsFor l.fewer.items l.fn.all.items
