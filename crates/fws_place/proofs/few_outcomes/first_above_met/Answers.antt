use Rattle.std.proofs.Common.{◌≤◌, length, arith}
use Rattle.fws_place.proofs.Counting.{first_at, none_above, one_put, row_put}
use Rattle.fws_place.proofs.few_outcomes.first_above_met.Goals as goal

pub returns-then-len-most : goal.returns-then-len-most
returns-then-len-most g c =
    let old = c.loop-at.met.keys in
    let new = c.put_leaf.new.kept.keys in
    let rows = c.args.rows.now in
    let put = c.in_ok-put_leaf.ensures in
    first_at c.args.most rows c.loop-at.at old new c.loop-at-test.true c.loop-at.invariant.counted c.loop-at.invariant.few
    (row_put rows c.loop-at.at c.index-rows-at.result old new c.loop-at-test.true c.index-rows-at.is put c.loop-at.invariant.counted) put.different
    (one_put old new c.index-rows-at.result.leaf put) (omega (arith, c.len.ensures.len, c.if-len-most.true))

pub loop-at-preserved : goal.loop-at-preserved
loop-at-preserved g c =
    let old = c.loop-at.met.keys in
    let new = c.put_leaf.new.kept.keys in
    let put = c.in_ok-put_leaf.ensures in
    record {
      different = put.different;
      counted = row_put c.args.rows.now c.loop-at.at c.index-rows-at.result old new c.loop-at-test.true c.index-rows-at.is put c.loop-at.invariant.counted;
      few = omega (arith, c.len.ensures.len, c.if-len-most.false);
    }

pub returns : goal.returns
returns g c =
    let le : length c.args.rows.now ≤ c.loop-at.at = omega arith in
    none_above c.args.most c.args.rows.now c.loop-at.at c.loop-at.met.keys le c.loop-at.invariant.counted c.loop-at.invariant.few
