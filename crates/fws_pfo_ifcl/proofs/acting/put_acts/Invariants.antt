use Rattle.std.proofs.Common.{◌≡◌, ◌++◌, drop, map}
use Rattle.fws_ifcl_rules.specs.Rules.{always}
use Rattle.fws_pfo_ifcl.proofs.acting.put_acts.Given as goal

abbrev pub invariant-loop-act : goal.invariant-loop-act
invariant-loop-act l = l.rules.items ++ map always (drop l.act-index l.acts) ≡ l.fn.rules.items ++ map always l.acts
