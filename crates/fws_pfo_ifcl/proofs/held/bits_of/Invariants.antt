use Rattle.std.proofs.Common.{◌≡◌, ◌++◌, ◌-◌}
use Rattle.fws_pfo_ifcl.specs.Held.{bits_of}
use Rattle.fws_pfo_ifcl.proofs.held.bits_of.Given as goal

abbrev pub invariant-loop-i : goal.invariant-loop-i
invariant-loop-i l = l.bits.items ++ bits_of (l.count - l._i) l.left ≡ bits_of l.count l.n
