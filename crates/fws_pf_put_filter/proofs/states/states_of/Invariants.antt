use Rattle.fws_pf_put_filter.specs.Stating.{AreStatesBefore}
use Rattle.fws_pf_put_filter.proofs.states.states_of.Given as goal

abbrev pub invariant-loop-k : goal.invariant-loop-k
invariant-loop-k l = AreStatesBefore l.leaves l.nodes l.k l.states l.own.items
