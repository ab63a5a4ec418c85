use Rattle.std.proofs.Common.{◌≡◌, cond, ◌&&◌, length, ◌∙◌, ap}
use Rattle.fws_box.specs.Boxes.{box_hits, sides_of}
use Rattle.fws_box.specs.Sides.{sides_have}
use Rattle.fws_net.specs.Conditions.{holds}
use Rattle.fws_net.specs.Points.{tops_of}
use Rattle.fws_box_conditions.specs.Scenes.{view_of}
use Rattle.fws_tree.specs.Marks.{mark_at}
use Rattle.fws_exec.proofs.Dividing.{within_length}
use Rattle.fws_exec.proofs.Marking.{boxed_by}
use Rattle.fws_exec.proofs.marks.put_cond.Goals as goal

pub returns : goal.returns
returns c rest p w =
    let twelve : length p ≡ 12 = within_length (tops_of c.args.ground.now.site.now) p w in
    let hits : box_hits c.as_slice.result.now p ≡ cond (sides_have (sides_of c.args.area.now) p && holds c.args.cond.now (view_of c.args.ground.now.site.now c.args.scene.now p)) 1 0 =
    ap (λ bs. box_hits bs p) c.as_slice.ensures.value ∙ c.in_ok-boxes.ensures p twelve in
    c.in_ok-put_boxes.ensures rest p
    ∙ ap (λ k. mark_at c.args.marks.now.items k p) (boxed_by c.as_slice.result.now c.args.label rest p (sides_have (sides_of c.args.area.now) p && holds c.args.cond.now (view_of c.args.ground.now.site.now c.args.scene.now p)) hits)
