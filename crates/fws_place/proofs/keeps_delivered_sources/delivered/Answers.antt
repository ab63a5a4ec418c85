use Rattle.fws_place.proofs.DeliveredRows.{none_dropped}
use Rattle.fws_place.proofs.keeps_delivered_sources.delivered.Goals as goal

pub returns-in-Drop : goal.returns-in-Drop
returns-in-Drop c = none_dropped c.args.local.now c.args.top c.args.row.now c.in-Drop.is
