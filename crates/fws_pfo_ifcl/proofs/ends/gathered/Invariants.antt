use Rattle.std.proofs.Common.{◌≡◌, [], drop}
use Rattle.fws_pfo_ifcl.specs.Ends.{gathered}
use Rattle.fws_pfo_ifcl.proofs.ends.gathered.Given as goal

abbrev pub invariant-loop-rule : goal.invariant-loop-rule
invariant-loop-rule l = gathered l.outward l.ends (drop l.rule-index l.rules) ≡ gathered l.outward [] l.rules
