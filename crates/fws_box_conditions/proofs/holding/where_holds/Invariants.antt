use Rattle.std.proofs.Common.{take}
use Rattle.fws_box.specs.Boxes.{sides_of}
use Rattle.fws_net.specs.Conditions.{holds}
use Rattle.fws_box_conditions.specs.Scenes.{view_of}
use Rattle.fws_box_conditions.specs.Areas.{AreWhere}
use Rattle.fws_box_conditions.proofs.holding.where_holds.Given as goal

abbrev pub invariant-loop-lit : goal.invariant-loop-lit
invariant-loop-lit l = AreWhere (sides_of l.area) (λ p. holds (take l.lit-index l.lit-items) (view_of l.site l.scene p)) l.boxes.items
