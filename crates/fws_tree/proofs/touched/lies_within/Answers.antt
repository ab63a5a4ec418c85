use Rattle.std.proofs.Common.{◌≡◌, length, arith}
use Rattle.fws_tree.proofs.Touching.{within_from}
use Rattle.fws_tree.proofs.touched.lies_within.Goals as goal

pub returns : goal.returns
returns c = λ e.
    let past = c.loop-k-test.false in
    let tops : length c.args.tops.now ≡ 12 = c.told-tops in
    let p : length c.args.p.now ≡ 12 = c.told-p in
    within_from c.args.tops.now c.args.p.now (omega arith) (λ j lt. c.loop-k.invariant j (omega arith))
