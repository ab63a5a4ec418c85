use Rattle.fws_print.proofs.Numbering.{places_more}
use Rattle.fws_print.proofs.labels.put_places.Goals as goal

pub loop-at-preserved : goal.loop-at-preserved
loop-at-preserved c = places_more c.args.front.now c.loop-at.at _ c.loop-at.labels.items _ c.in_ok-label.label c.in_ok-push.ensures.items c.in_ok-label.ensures c.loop-at.invariant
