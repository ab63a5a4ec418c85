use Rattle.fws_pf_put_filter.proofs.Conding.{AreEntriesBelow}
use Rattle.fws_pf_put_filter.proofs.conds.by_entry.Given as goal

abbrev pub invariant-loop-e : goal.invariant-loop-e
invariant-loop-e l = AreEntriesBelow l.top l.set l.e l.conds
