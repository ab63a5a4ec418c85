use Rattle.std.proofs.Common.{take}
use Rattle.fws_place.proofs.Counting.{AreCounted}
use Rattle.fws_place.proofs.apart.once.Given as goal

abbrev pub invariant-loop-leaf : goal.invariant-loop-leaf
invariant-loop-leaf g l = AreCounted (take l.leaf-index l.leaves) l.kept.keys
