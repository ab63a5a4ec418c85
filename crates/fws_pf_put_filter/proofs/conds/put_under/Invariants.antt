use Rattle.std.proofs.Common.{◌≡◌, ◌++◌, take}
use Rattle.fws_pf_put_filter.specs.Conds.{conds_under}
use Rattle.fws_pf_put_filter.proofs.conds.put_under.Given as goal

abbrev pub invariant-loop-lit : goal.invariant-loop-lit
invariant-loop-lit l = l.conds ≡ l.initial.conds ++ conds_under l.protocol (take l.lit-index l.lits)
