use Rattle.fws_tree_seen.proofs.Sees.{open_unseen}
use Rattle.fws_tree_seen.proofs.laws.unseen_fields_are_open.Goals as goal

pub returns : goal.returns
returns c = open_unseen
