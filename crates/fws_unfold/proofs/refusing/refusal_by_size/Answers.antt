use Rattle.std.proofs.Common.{arith, sym, ◌∙◌}
use Rattle.fws_unfold.proofs.Refused.{none_deep}
use Rattle.fws_unfold.proofs.refusing.refusal_by_size.Goals as goal

pub long_of-requires-clause-short : goal.long_of-requires-clause-short
long_of-requires-clause-short c = none_deep c.args.f.now 64 (omega arith) (sym c.in_ok-deep.ensures ∙ c.in-None.is)
