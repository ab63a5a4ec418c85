use Rattle.std.proofs.Common.{◌-◌}
use Rattle.fws_tree.proofs.halves.+mark_cell.Given as goal

abbrev pub decreases-mark_cell : goal.decreases-mark_cell
decreases-mark_cell l = 12 - l.field
