use Rattle.std.proofs.Common.{not, take}
use Rattle.fws_box.specs.Boxes.{sides_of}
use Rattle.fws_box.specs.Sides.{sides_have}
use Rattle.fws_box_conditions.specs.Kept.{AreThose}
use Rattle.fws_box_conditions.proofs.outside.cut_all.Given as goal

abbrev pub invariant-loop-piece : goal.invariant-loop-piece
invariant-loop-piece l = AreThose (take l.piece-index l.pieces) (λ p. not (sides_have (sides_of l.taken) p)) l.left.items
