use Rattle.std.proofs.Common.{◌≡◌, length, drop}
use Rattle.fws_ifcl.specs.Soundness.{rules_ok}
use Rattle.fws_ifcl.proofs.soundness.rules_ok.Given as goal

abbrev pub invariant-loop-at : goal.invariant-loop-at
invariant-loop-at l = rules_ok l.chains (length l.rules) l.at (drop l.at l.rules) ≡ rules_ok l.chains (length l.rules) 0 l.rules
