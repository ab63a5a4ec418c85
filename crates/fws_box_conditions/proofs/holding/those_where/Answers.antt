use Rattle.std.proofs.Common.{ℕ, Bool, List, [], arith}
use Rattle.fws_net.specs.Conditions.{lit_holds}
use Rattle.fws_box_conditions.specs.Scenes.{view_of}
use Rattle.fws_box_conditions.proofs.Counting.{those_next}
use Rattle.fws_box_conditions.proofs.holding.those_where.Goals as goal

pub loop-area-preserved : goal.loop-area-preserved
loop-area-preserved c =
    let t : List ℕ → Bool = λ p. lit_holds (view_of c.args.site.now c.args.scene.now p) c.args.lit.now in
    those_next [] c.args.areas.now c.loop-area.area-index c.area-item.result t c.loop-area.boxes.items c.add_those.new.boxes.items
    (omega arith) c.area-item.is c.loop-area.invariant c.in_ok-add_those.ensures
