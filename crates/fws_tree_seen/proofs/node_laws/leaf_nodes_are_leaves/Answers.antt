use Rattle.fws_tree_seen.proofs.CutNodes.{leaf_node}
use Rattle.fws_tree_seen.proofs.node_laws.leaf_nodes_are_leaves.Goals as goal

pub returns : goal.returns
returns g c = λ tops t leaves nodes at n. leaf_node tops t leaves nodes at n
