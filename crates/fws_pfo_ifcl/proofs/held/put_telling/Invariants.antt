use Rattle.std.proofs.Common.{◌≡◌, ◌++◌, drop}
use Rattle.fws_pfo_ifcl.specs.Held.{telling}
use Rattle.fws_pfo_ifcl.proofs.held.put_telling.Given as goal

abbrev pub invariant-loop-bit : goal.invariant-loop-bit
invariant-loop-bit l = l.acts.items ++ telling l.tag (drop l.bit-index l.bits) ≡ l.fn.acts.items ++ telling l.first l.bits
