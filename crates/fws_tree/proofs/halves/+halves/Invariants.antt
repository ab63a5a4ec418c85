use Rattle.std.proofs.Common.{length}
use Rattle.fws_tree.proofs.halves.+halves.Given as goal

abbrev pub decreases-halves : goal.decreases-halves
decreases-halves l = length l.marks.now
