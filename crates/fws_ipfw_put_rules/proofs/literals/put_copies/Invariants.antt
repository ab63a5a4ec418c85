use Rattle.std.proofs.Common.{◌≡◌, ◌++◌, take}
use Rattle.fws_ipfw_put_rules.proofs.literals.put_copies.Given as goal

abbrev pub invariant-loop-lit : goal.invariant-loop-lit
invariant-loop-lit l = l.cond ≡ l.initial.cond ++ take l.lit-index l.lits
