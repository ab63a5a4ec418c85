use Rattle.std.proofs.Common.{arith}
use Rattle.fws_box.specs.Boxes.{sides_of}
use Rattle.fws_box_conditions.proofs.Counting.{cut_next}
use Rattle.fws_box_conditions.proofs.outside.outside.Goals as goal

pub loop-taken-preserved : goal.loop-taken-preserved
loop-taken-preserved c =
    cut_next (sides_of c.args.area.now) c.args.boxes.now c.loop-taken.taken-index c.taken-item.result c.loop-taken.left.items c.in_ok-left-2.left.items
    (omega arith) c.taken-item.is c.loop-taken.invariant (rw c.as_slice.ensures.value at c.in_ok-left-2.ensures)
