use Rattle.std.proofs.Common.{ℕ, Bool, List}
use Rattle.fws_box.specs.Boxes.{sides_of}
use Rattle.fws_net.specs.Conditions.{test_holds}
use Rattle.fws_box_conditions.specs.Scenes.{view_of}
use Rattle.std.proofs.lemmas.Result.{IfOk-weaker}
use Rattle.fws_box_conditions.proofs.Dividing.{where_turned, where_straight}
use Rattle.fws_box_conditions.proofs.holding.lit_boxes.Goals as goal

pub returns-then-lit : goal.returns-then-lit
returns-then-lit c =
    let t : List ℕ → Bool = λ p. test_holds (view_of c.args.site.now c.args.scene.now p) c.args.lit.now.test in
    IfOk-weaker c.outside.result _ _
    (λ left e. where_turned (sides_of c.args.area.now) t c.args.lit.now.not c.in_ok-there.there.items left.items c.if-lit.true c.in_ok-there.ensures
    (rw c.as_slice.ensures.value at e)) c.outside.ensures

pub returns : goal.returns
returns c =
    let t : List ℕ → Bool = λ p. test_holds (view_of c.args.site.now c.args.scene.now p) c.args.lit.now.test in
    where_straight (sides_of c.args.area.now) t c.args.lit.now.not c.in_ok-there.there.items c.if-lit.false c.in_ok-there.ensures
