use Rattle.fws_tree_seen.proofs.CutNodes.{cut_node}
use Rattle.fws_tree_seen.proofs.node_laws.cut_nodes_part_values.Goals as goal

pub returns : goal.returns
returns g c = λ tops t leaves nodes at f kids. cut_node tops t leaves nodes at f kids
