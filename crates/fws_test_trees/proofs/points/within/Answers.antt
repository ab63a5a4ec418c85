use Rattle.std.proofs.Common.{◌≤◌, length, arith}
use Rattle.fws_test_trees.proofs.Within.{within_places}
use Rattle.fws_test_trees.proofs.points.within.Goals as goal

pub returns : goal.returns
returns c =
    let all : length c.args.tops.now ≤ c.loop-field.field = omega (arith, c.told-tops, c.loop-field-test.false) in
    within_places c.args.tops.now c.loop-field.near (omega (arith, c.told-tops, c.loop-field.invariant.0))
    (λ k lt. c.loop-field.invariant.1 k (omega (arith, all)))
