use Rattle.fws_place.proofs.Viewing.{pairs_told}
use Rattle.fws_place.proofs.laws.fitting_pairs_are_told.Goals as goal

pub returns : goal.returns
returns c = pairs_told
