use Rattle.std.proofs.Common.{◌≡◌, ◌++◌, take, drop}
use Rattle.fws_net.specs.declared.condition.Lit.{Lit}
use Rattle.fws_ipfw_print.specs.Printable.{place_of}
use Rattle.fws_ipfw_put_rules.specs.Literals.{inserted}
use Rattle.fws_ipfw_put_rules.proofs.literals.count_before.Given as goal

abbrev pub invariant-loop-i : goal.invariant-loop-i
invariant-loop-i l = (lit : Lit) → place_of lit.test ≡ l.place → inserted lit l.lits ≡ take l.i l.lits ++ inserted lit (drop l.i l.lits)
