use Rattle.fws_place.proofs.SeenPoints.{seen_points}
use Rattle.fws_place.proofs.laws.points_are_seen.Goals as goal

pub returns : goal.returns
returns c = seen_points
