use Rattle.fws_pf_put_filter.specs.Pieces.{AreValuesBelow}
use Rattle.fws_pf_put_filter.proofs.set_pieces.values.Given as goal

abbrev pub invariant-loop-v : goal.invariant-loop-v
invariant-loop-v l = AreValuesBelow l.field l.set l.v l.lits
