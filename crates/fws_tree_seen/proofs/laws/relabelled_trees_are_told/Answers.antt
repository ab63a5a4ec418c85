use Rattle.fws_tree_seen.proofs.Relabelled.{told_images}
use Rattle.fws_tree_seen.proofs.laws.relabelled_trees_are_told.Goals as goal

pub returns : goal.returns
returns g c = λ seen tops gives t u. told_images seen tops gives t u
