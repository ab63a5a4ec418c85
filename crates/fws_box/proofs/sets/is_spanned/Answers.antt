use Rattle.std.proofs.Common.{◌≡◌, ◌-◌, arith, length, suc}
use Rattle.fws_box.proofs.Spans.{span, from_first, to_last}
use Rattle.fws_box.proofs.sets.is_spanned.Goals as goal

pub overlap-requires-clause-order : goal.overlap-requires-clause-order
overlap-requires-clause-order c = span 0 c.args.inner.now (length c.args.inner.now - 1) _ _ c.requires.inner (omega (arith, c.if-count-eq0.false))

pub returns-in-Whole : goal.returns-in-Whole
returns-in-Whole c _ v h =
    let count : length c.args.inner.now ≡ suc (length c.args.inner.now - 1) = omega (arith, c.if-count-eq0.false) in
    c.overlap.ensures.whole.0 c.in-Whole.is v (from_first 0 c.args.inner.now _ c.requires.inner v h) (to_last 0 c.args.inner.now (length c.args.inner.now - 1) _ c.requires.inner count v h)
