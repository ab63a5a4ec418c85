use Rattle.fws_tree.specs.Settled.{AreSettled}
use Rattle.fws_tree.proofs.finish.settle_into.Given as goal

abbrev pub invariant-loop-node : goal.invariant-loop-node
invariant-loop-node g l = AreSettled l.leaves l.yielded l.kept l.put
