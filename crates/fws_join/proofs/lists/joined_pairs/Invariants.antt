use Rattle.fws_join.specs.Deciding.{StandsFor}
use Rattle.fws_join.proofs.lists.joined_pairs.Given as goal

abbrev pub invariant-loop-next : goal.invariant-loop-next
invariant-loop-next l = StandsFor l.fewer.items l.yielded
