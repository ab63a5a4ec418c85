use Rattle.std.proofs.Common.{◌≡◌, drop}
use Rattle.fws_pfo_ifcl.specs.Blocks.{behind_changes}
use Rattle.fws_pfo_ifcl.proofs.tail.tail_place.Given as goal

abbrev pub invariant-loop-i : goal.invariant-loop-i
invariant-loop-i l = behind_changes l.outward l.place l.i (drop l.i l.rules) ≡ behind_changes l.outward 0 0 l.rules
