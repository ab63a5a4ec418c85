use Rattle.std.proofs.Common.{take, All}
use Rattle.fws_place.specs.Delivered.{NoneDelivered}
use Rattle.fws_place.proofs.keeps_delivered_sources.first_delivered.Given as goal

abbrev pub invariant-loop-row : goal.invariant-loop-row
invariant-loop-row l = All (NoneDelivered l.local l.top) (take l.row-index l.rows)
