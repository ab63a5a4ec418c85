use Rattle.std.proofs.Common.{ℕ, Bool, List, [], not, arith}
use Rattle.fws_box.specs.Boxes.{sides_of}
use Rattle.fws_box.specs.Sides.{sides_have}
use Rattle.fws_box_conditions.proofs.Counting.{those_next}
use Rattle.fws_box_conditions.proofs.outside.cut_all.Goals as goal

pub loop-piece-preserved : goal.loop-piece-preserved
loop-piece-preserved c =
    let test : List ℕ → Bool = λ p. not (sides_have (sides_of c.args.taken.now) p) in
    those_next [] c.args.pieces.now c.loop-piece.piece-index c.piece-item.result test c.loop-piece.left.items c.add_cut.new.pieces.items
    (omega arith) c.piece-item.is c.loop-piece.invariant c.in_ok-add_cut.ensures
