use Rattle.std.proofs.Common.{◌∙◌, ap, arith, get_or, slice_set}
use Rattle.fws_iv.specs.Ivs.{has}
use Rattle.fws_box.specs.Sides.{sides_have}
use Rattle.fws_exec.proofs.Parted.{one_side}
use Rattle.fws_exec.proofs.parts.within.Goals as goal

pub returns : goal.returns
returns c p =
    ap (λ ss. sides_have (slice_set ss 4 c.in_ok-part-2.field-0) p) c.in_ok-part.ensures
    ∙ one_side c.args.sides.now 4 c.in_ok-part-2.field-0 _ (has c.args.set.now (get_or p 4 0)) p (omega arith) (c.in_ok-part-2.ensures (get_or p 4 0))
