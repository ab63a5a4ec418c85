use Rattle.std.proofs.Common.{◌≡◌, ◌++◌, drop}
use Rattle.fws_pfo_ifcl.specs.Held.{told}
use Rattle.fws_pfo_ifcl.proofs.held.told.Given as goal

abbrev pub invariant-loop-bit : goal.invariant-loop-bit
invariant-loop-bit l = l.cond ++ told l.tag (drop l.bit-index l.bits) ≡ told l.first l.bits
