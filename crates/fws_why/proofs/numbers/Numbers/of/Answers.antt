use Rattle.fws_ifcl.specs.declared.diagram.Spot.{Spot}
use Rattle.fws_why.specs.Numbers.{numbers_in}
use Rattle.fws_why.proofs.Spotted.{next_spot}
use Rattle.fws_why.proofs.numbers.Numbers.of.Goals as goal

pub loop-spot-preserved : goal.loop-spot-preserved
loop-spot-preserved c place =
    let other : Spot = record { rule = 0; at = record { chain = 0; rule = 0 } } in
    next_spot c.args.spots.now c.loop-spot.spot-index other place (numbers_in c.loop-spot.numbers place) _ c.loop-spot-test.true (c.loop-spot.invariant place)
    (c.in_ok-note.ensures place)
