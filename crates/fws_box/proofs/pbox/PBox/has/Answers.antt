use Rattle.std.proofs.Common.{sym, ◌∙◌, drop, arith}
use Rattle.std.proofs.lemmas.List.{length-map}
use Rattle.fws_box.specs.Boxes.{sides_of}
use Rattle.fws_box.proofs.SideBySide.{left_none}
use Rattle.fws_box.proofs.pbox.PBox.has.Goals as goal

pub returns : goal.returns
returns c =
    let n = length-map c.args.self.now.sides (λ s. s.now) in
    sym (left_none c.loop-k.k (sides_of c.args.self.now) (drop c.loop-k.k c.args.p.now) (omega arith)) ∙ c.loop-k.invariant.left
