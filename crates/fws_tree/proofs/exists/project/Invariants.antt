use Rattle.std.proofs.Common.{◌≡◌, ℕ, ◌<◌, List, length}
use Rattle.fws_tree.specs.Held.{AreOrderedFrom, held_at}
use Rattle.fws_tree.specs.Projected.{AreProjected}
use Rattle.fws_tree.proofs.exists.project.Given as goal

abbrev pub invariant-loop-node : goal.invariant-loop-node
invariant-loop-node l = record {
  ordered : AreOrderedFrom 0 l.store;
  rest : l.rest < length l.store;
  nowhere : (p : List ℕ) → held_at l.store l.rest p ≡ 0;
  many : length l.at.items ≡ l.node-index;
  projected : AreProjected l.tops l.fields l.tree.leaves.now l.tree.nodes.now l.store l.at.items;
}
