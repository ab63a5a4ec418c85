use Rattle.std.proofs.Common.{ℕ, Bool, List, not}
use Rattle.fws_box.specs.Boxes.{sides_of}
use Rattle.fws_box.specs.Sides.{sides_have}
use Rattle.fws_box_conditions.proofs.Counting.{adds_where}
use Rattle.fws_box_conditions.proofs.outside.add_cut.Goals as goal

pub returns : goal.returns
returns c =
    let test : List ℕ → Bool = λ p. not (sides_have (sides_of c.args.taken.now) p) in
    adds_where (sides_of c.args.area.now) test c.args.pieces.now.items c.in_ok-parts.parts.items c.append.new.self.items c.in_ok-append.ensures.items c.in_ok-parts.ensures.once
