use Rattle.std.proofs.Common.{subst, sym}
use Rattle.fws_iv.specs.Ivs.{IsRegular}
use Rattle.fws_table.proofs.Steps.{parts_in_order}
use Rattle.fws_table.proofs.side_text.put_side.Goals as goal

pub put_parts-requires : goal.put_parts-requires
put_parts-requires c =
    parts_in_order 0 _ (subst IsRegular (sym c.parts-parts.ensures.value) c.parts-parts.ensures.regular)
