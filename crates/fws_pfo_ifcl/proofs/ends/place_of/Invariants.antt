use Rattle.std.proofs.Common.{◌≡◌, ◌+◌, drop}
use Rattle.fws_pfo_ifcl.specs.Ends.{place_of}
use Rattle.fws_pfo_ifcl.proofs.ends.place_of.Given as goal

abbrev pub invariant-loop-i : goal.invariant-loop-i
invariant-loop-i l = l.i + place_of (drop l.i l.ends) l.end ≡ place_of l.ends l.end
