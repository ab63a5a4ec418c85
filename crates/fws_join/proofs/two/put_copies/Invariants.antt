use Rattle.std.proofs.Common.{◌≡◌, ◌++◌, take}
use Rattle.fws_join.proofs.two.put_copies.Given as goal

abbrev pub invariant-loop-lit : goal.invariant-loop-lit
invariant-loop-lit l = l.cond ≡ l.fn.cond ++ take l.lit-index l.lits
