use Rattle.std.proofs.Common.{ℕ, Bool, List}
use Rattle.fws_box.specs.Boxes.{sides_of}
use Rattle.fws_net.specs.Conditions.{lit_holds}
use Rattle.fws_box_conditions.specs.Scenes.{view_of}
use Rattle.fws_box_conditions.proofs.Counting.{adds_where}
use Rattle.fws_box_conditions.proofs.holding.add_those.Goals as goal

pub returns : goal.returns
returns c =
    let t : List ℕ → Bool = λ p. lit_holds (view_of c.args.site.now c.args.scene.now p) c.args.lit.now in
    adds_where (sides_of c.args.area.now) t c.args.boxes.now.items c.in_ok-parts.parts.items c.append.new.self.items c.in_ok-append.ensures.items c.in_ok-parts.ensures
