use Rattle.std.proofs.Common.{◌≡◌, ◌++◌, map}
use Rattle.fws_pfo_ifcl.specs.Rulings.{ruling_of}
use Rattle.fws_pfo_ifcl.proofs.rulings.put_all.Given as goal

abbrev pub invariant-loop-one : goal.invariant-loop-one
invariant-loop-one l = l.finished ≡ l.fn.finished ++ map (ruling_of l.to) l.yielded
