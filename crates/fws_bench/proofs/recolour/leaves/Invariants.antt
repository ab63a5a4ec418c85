use Rattle.std.proofs.Common.{◌≡◌, length}
use Rattle.fws_bench.proofs.recolour.leaves.Given as goal

abbrev pub invariant-loop-number : goal.invariant-loop-number
invariant-loop-number l = length l.leaves.items ≡ l.number
