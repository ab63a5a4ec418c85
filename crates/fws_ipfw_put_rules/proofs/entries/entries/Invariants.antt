use Rattle.fws_ipfw_put_rules.proofs.Placing.{AreEntriesBelow}
use Rattle.fws_ipfw_put_rules.proofs.entries.entries.Given as goal

abbrev pub invariant-loop-e : goal.invariant-loop-e
invariant-loop-e l = AreEntriesBelow l.top l.set l.e l.lits
