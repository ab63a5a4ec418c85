use Rattle.fws_tree_seen.proofs.Left.{open_other}
use Rattle.fws_tree_seen.proofs.laws.left_sets_are_open.Goals as goal

pub returns : goal.returns
returns c = open_other
