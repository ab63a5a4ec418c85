use Rattle.std.proofs.Common.{false}
use Rattle.fws_ios_put_entries.specs.declared.side.Side.TheVariants.{Proto, Src, Sport}
use Rattle.fws_ios_put_cover.specs.Boxes.{part}
use Rattle.fws_ios_put_cover.proofs.Chaining.{box_done, not_asked, open_later}
use Rattle.fws_ios_put_cover.proofs.asking.paths_for.Goals as goal

pub stepped-requires-clause-unasked : goal.stepped-requires-clause-unasked
stepped-requires-clause-unasked c = c.in_ok-paths.ensures.opens false (not_asked Proto (part c.args.sides.now 1))

pub stepped-requires-2-clause-unasked : goal.stepped-requires-2-clause-unasked
stepped-requires-2-clause-unasked c =
    c.in_ok-paths-2.ensures.stepped false (c.in_ok-paths.ensures.opens false (not_asked Proto (part c.args.sides.now 1))) (not_asked Src (part c.args.sides.now 4))

pub stepped-requires-3-clause-unasked : goal.stepped-requires-3-clause-unasked
stepped-requires-3-clause-unasked c =
    open_later false c.in_ok-paths-3.paths
    (c.in_ok-paths-3.ensures.stepped false (c.in_ok-paths-2.ensures.stepped false (c.in_ok-paths.ensures.opens false (not_asked Proto (part c.args.sides.now 1))) (not_asked Src (part c.args.sides.now 4)))
    (not_asked Sport (part c.args.sides.now 5)))

pub returns : goal.returns
returns c =
    box_done c.args.sides.now c.in_ok-paths.paths c.in_ok-paths-2.paths c.in_ok-paths-3.paths c.in_ok-paths-4.paths c.in_ok-paths.ensures c.in_ok-paths-2.ensures c.in_ok-paths-3.ensures
    c.in_ok-paths-4.ensures
