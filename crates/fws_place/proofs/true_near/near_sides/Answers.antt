use Rattle.std.proofs.Common.{arith}
use Rattle.fws_place.proofs.NearPoints.{near_have}
use Rattle.fws_place.proofs.true_near.near_sides.Goals as goal

pub returns : goal.returns
returns c q w =
    near_have c.args.fields c.args.tops.now c.args.point.now c.loop-k.sides c.told-tops c.loop-k.invariant.twelve (λ j lt. c.loop-k.invariant.made j (omega arith)) c.requires q w
