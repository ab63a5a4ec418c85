use Rattle.std.proofs.Common.{length}
use Rattle.fws_tree.proofs.kid_steps.+kid_steps.Given as goal

abbrev pub decreases-kid_steps : goal.decreases-kid_steps
decreases-kid_steps l = length l.kids.now
