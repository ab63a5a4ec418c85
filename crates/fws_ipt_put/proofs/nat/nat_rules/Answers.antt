use Rattle.std.proofs.Common.{sym, subst}
use Rattle.fws_ipt_put.specs.Marks.{HaveBlocks}
use Rattle.fws_ipt_put.proofs.nat.nat_rules.Goals as goal

pub put_mark-requires : goal.put_mark-requires
put_mark-requires c =
    subst HaveBlocks (sym c.index-marks-place.is) (c.requires.blocks c.loop-place.place c.index-marks-place.result c.loop-place-test.true)
