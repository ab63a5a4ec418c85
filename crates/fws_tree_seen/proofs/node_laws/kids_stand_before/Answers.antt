use Rattle.fws_tree_seen.proofs.Trees.{kids_before}
use Rattle.fws_tree_seen.proofs.node_laws.kids_stand_before.Goals as goal

pub returns : goal.returns
returns c = kids_before
