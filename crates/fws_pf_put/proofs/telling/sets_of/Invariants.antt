use Rattle.std.proofs.Common.{◌≡◌, length, take}
use Rattle.fws_pf_put.specs.Gathered.{AreSets}
use Rattle.fws_pf_put.proofs.telling.sets_of.Given as goal

abbrev pub invariant-loop-row : goal.invariant-loop-row
invariant-loop-row l = (length l.sets.items ≡ length l.ends.keys) × AreSets l.ends.keys l.sets.items (take l.row-index l.rows)
