use Rattle.std.proofs.Common.{length}
use Rattle.fws_bench.proofs.+do_jobs.Given as goal

abbrev pub decreases-do_jobs : goal.decreases-do_jobs
decreases-do_jobs g l = length l.words.now
