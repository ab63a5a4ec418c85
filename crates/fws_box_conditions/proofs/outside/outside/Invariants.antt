use Rattle.std.proofs.Common.{nat_eq, take}
use Rattle.fws_box.specs.Boxes.{box_hits, sides_of}
use Rattle.fws_box_conditions.specs.Areas.{AreWhere}
use Rattle.fws_box_conditions.proofs.outside.outside.Given as goal

abbrev pub invariant-loop-taken : goal.invariant-loop-taken
invariant-loop-taken l = AreWhere (sides_of l.area) (λ p. nat_eq (box_hits (take l.taken-index l.boxes) p) 0) l.left.items
