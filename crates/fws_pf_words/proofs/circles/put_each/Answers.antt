use Rattle.std.proofs.Common.{arith}
use Rattle.fws_pf_words.proofs.Found.{in_at}
use Rattle.fws_pf_words.proofs.circles.put_each.Goals as goal

pub loop-place-preserved : goal.loop-place-preserved
loop-place-preserved c tables at are =
    c.in_ok-put_at.ensures tables (at _ (in_at c.args.places.now c.loop-place.place-index (omega arith))) (c.loop-place.invariant tables at are)
