use Rattle.fws_tree_seen.proofs.Reaching.{reached_by}
use Rattle.fws_tree_seen.proofs.laws.open_kids_are_reached.Goals as goal

pub returns : goal.returns
returns g c = λ seen q f w tree front back other. reached_by seen q f w tree front back other
