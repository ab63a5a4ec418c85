use Rattle.std.proofs.Common.{◌<◌, length, arith}
use Rattle.std.proofs.lemmas.Bool.{eqb-true}
use Rattle.std.proofs.lemmas.List.{get_or_read}
use Rattle.fws_tree.proofs.Spreading.{masked}
use Rattle.fws_tree.proofs.canvas.Canvas.is_masked.Goals as goal

pub returns : goal.returns
returns c none =
    let lt : c.args.at < length c.args.self.now.masks.items = omega arith in
    masked c.args.self.now c.args.at c.args.value c.bits_of-bits.result c.index.result.now c.bits_of-bits.ensures (omega arith) (get_or_read c.args.self.now.masks.items _ _ lt c.index.ensures 0) lt (eqb-true _ 0 none)
