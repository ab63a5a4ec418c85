use Rattle.std.proofs.Common.{◌+◌, ◌*◌}
use Rattle.fws_suggest.proofs.running.+search.Given as goal

abbrev pub decreases-run : goal.decreases-run
decreases-run l = 3 * l.place.left + 2

abbrev pub decreases-bolder : goal.decreases-bolder
decreases-bolder l = 3 * l.place.left + 1

abbrev pub decreases-with_exceptions : goal.decreases-with_exceptions
decreases-with_exceptions l = 3 * l.place.left
