use Rattle.fws_place.proofs.Viewing.{lost_dropped}
use Rattle.fws_place.proofs.laws.lost_pairs_are_dropped.Goals as goal

pub returns : goal.returns
returns c = lost_dropped
