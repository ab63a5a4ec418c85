use Rattle.std.proofs.Common.{length}
use Rattle.fws_iv.proofs.ranges.+parts_of_ranges.Given as goal

abbrev pub decreases-parts_of_ranges : goal.decreases-parts_of_ranges
decreases-parts_of_ranges l = length l.ranges.now
