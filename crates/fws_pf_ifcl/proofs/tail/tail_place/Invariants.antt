use Rattle.std.proofs.Common.{◌≡◌, drop}
use Rattle.fws_pf_ifcl.specs.Blocks.{behind_tags}
use Rattle.fws_pf_ifcl.proofs.tail.tail_place.Given as goal

abbrev pub invariant-loop-i : goal.invariant-loop-i
invariant-loop-i l = behind_tags l.outward l.place l.i (drop l.i l.filter) ≡ behind_tags l.outward 0 0 l.filter
