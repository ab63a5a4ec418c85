use Rattle.fws_tree_seen.proofs.Reaching.{reached_is}
use Rattle.fws_tree_seen.proofs.laws.reached_values_are_told.Goals as goal

pub returns : goal.returns
returns g c = λ seen tops t q x w. reached_is seen tops t q x w
