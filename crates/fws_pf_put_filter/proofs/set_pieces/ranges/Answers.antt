use Rattle.std.proofs.Common.{sym, subst}
use Rattle.fws_iv.specs.Ivs.{IsRegular}
use Rattle.fws_pf_put_filter.proofs.Hitting.{part_order}
use Rattle.fws_pf_put_filter.proofs.set_pieces.ranges.Goals as goal

pub one-requires : goal.one-requires
one-requires c =
    let parts = c.parts-parts.result.now in
    let regular : IsRegular parts = subst IsRegular (sym c.parts-parts.ensures.value) c.parts-parts.ensures.regular in
    part_order 0 c.loop-part.part-index parts _ regular c.loop-part-test.true
