use Rattle.std.proofs.Common.{sym, subst, [], ◌∷◌, ◌++◌}
use Rattle.fws_tree.specs.Settled.{AreSettled}
use Rattle.fws_tree.proofs.Settling.{settled-next}
use Rattle.fws_tree.proofs.finish.settle_into.Goals as goal

pub loop-node-preserved : goal.loop-node-preserved
loop-node-preserved g c = subst (λ ms. AreSettled c.args.leaves.now (c.loop-node.yielded ++ c.in-Some.node ∷ []) c.put_node.new.kept ms) (sym c.in_ok-put.ensures.ok)
    (settled-next c.args.leaves.now c.loop-node.yielded c.loop-node.kept c.put_node.new.kept c.loop-node.put c.in-Some.node c.in_ok-node.node c.loop-node.invariant c.in_ok-node.ensures)
