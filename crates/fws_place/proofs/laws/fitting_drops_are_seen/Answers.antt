use Rattle.fws_place.proofs.Viewing.{drops_seen}
use Rattle.fws_place.proofs.laws.fitting_drops_are_seen.Goals as goal

pub returns : goal.returns
returns c = drops_seen
