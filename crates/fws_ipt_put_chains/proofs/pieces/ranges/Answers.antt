use Rattle.std.proofs.Common.{◌≤◌, sym, subst, List}
use Rattle.std.specs.Prelude.{All}
use Rattle.fws_iv.specs.declared.iv.Iv.{Iv}
use Rattle.fws_ipt_put_chains.proofs.Intervals.{orderly}
use Rattle.fws_ipt_put_chains.proofs.pieces.ranges.Goals as goal

pub in_range-requires : goal.in_range-requires
in_range-requires c =
    (subst (λ (l : List Iv). All (λ iv. iv.lo ≤ iv.hi) l) (sym c.parts-range-items.ensures.value) (orderly 0 c.args.set.now c.parts-range-items.ensures.regular)) c.loop-range.range-index _ c.loop-range-test.true
