use Rattle.fws_place.proofs.PairPoints.{point_back}
use Rattle.fws_place.proofs.laws.points_are_of_pairs.Goals as goal

pub returns : goal.returns
returns c = point_back
