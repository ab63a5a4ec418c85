use Rattle.fws_pf_put_nat.specs.Narrowing.{AreNumberPaths}
use Rattle.fws_pf_put_nat.proofs.narrowing.number_paths.Given as goal

abbrev pub invariant-loop-v : goal.invariant-loop-v
invariant-loop-v l = AreNumberPaths l.side l.set l.path l.from l.v l.paths
