use Rattle.fws_bench.specs.Bounded.{IsBounded}
use Rattle.fws_bench.proofs.recolour.recolour_often.Given as goal

abbrev pub invariant-loop-k : goal.invariant-loop-k
invariant-loop-k l = IsBounded l.canvas
