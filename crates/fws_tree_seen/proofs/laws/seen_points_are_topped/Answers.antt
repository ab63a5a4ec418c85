use Rattle.fws_tree_seen.proofs.Reaching.{topped_by}
use Rattle.fws_tree_seen.proofs.laws.seen_points_are_topped.Goals as goal

pub returns : goal.returns
returns c = topped_by
