use Rattle.std.proofs.Common.{take}
use Rattle.fws_pf_put.specs.Gathered.{HaveSources}
use Rattle.fws_pf_put.proofs.telling.sources_in.Given as goal

abbrev pub invariant-loop-row : goal.invariant-loop-row
invariant-loop-row l = HaveSources l.ends.keys (take l.row-index l.rows)
