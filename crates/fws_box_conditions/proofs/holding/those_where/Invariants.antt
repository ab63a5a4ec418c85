use Rattle.std.proofs.Common.{take}
use Rattle.fws_net.specs.Conditions.{lit_holds}
use Rattle.fws_box_conditions.specs.Kept.{AreThose}
use Rattle.fws_box_conditions.specs.Scenes.{view_of}
use Rattle.fws_box_conditions.proofs.holding.those_where.Given as goal

abbrev pub invariant-loop-area : goal.invariant-loop-area
invariant-loop-area l = AreThose (take l.area-index l.areas) (λ p. lit_holds (view_of l.site l.scene p) l.lit) l.boxes.items
