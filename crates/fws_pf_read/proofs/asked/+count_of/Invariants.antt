use Rattle.std.proofs.Common.{length}
use Rattle.fws_pf_read.proofs.asked.+count_of.Given as goal

abbrev pub decreases-count_of : goal.decreases-count_of
decreases-count_of l = length l.asked.now
