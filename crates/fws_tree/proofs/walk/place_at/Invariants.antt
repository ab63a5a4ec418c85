use Rattle.std.proofs.Common.{◌≡◌, ◌<◌, drop, length}
use Rattle.fws_tree.specs.Plain.{value_from, value}
use Rattle.fws_tree.specs.Nodes.{tree_of}
use Rattle.fws_tree.proofs.walk.place_at.Given as goal

abbrev pub invariant-loop-x : goal.invariant-loop-x
invariant-loop-x l = record {
  counted : l.field ≡ l.x-index;
  inside : l.at < length l.nodes;
  left : value_from l.field (tree_of l.nodes l.at) (drop l.x-index l.p) ≡ value (tree_of l.nodes l.root) l.p;
}
