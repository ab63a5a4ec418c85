use Rattle.std.proofs.Common.{◌<◌, length, sym, ◌∙◌, arith}
use Rattle.fws_tree.specs.Nodes.{tree_of}
use Rattle.fws_tree.proofs.WayDown.{way_off}
use Rattle.fws_tree.proofs.walk.place_at.Goals as goal

pub returns-in_err-at : goal.returns-in_err-at
returns-in_err-at c = let lt : c.loop-x.x-index < length c.args.p.now = omega arith in
    c.from_residual.ensures ∙ sym (sym c.loop-x.invariant.left ∙ way_off c.loop-x.field (tree_of c.args.nodes.now c.loop-x.at) c.args.p.now c.loop-x.x-index lt c.in_err-at.ensures.tree)
