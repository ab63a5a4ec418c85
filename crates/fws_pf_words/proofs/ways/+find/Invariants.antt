use Rattle.std.proofs.Common.{length}
use Rattle.fws_pf_words.proofs.ways.+find.Given as goal

abbrev pub decreases-find : goal.decreases-find
decreases-find l = length l.known.now
