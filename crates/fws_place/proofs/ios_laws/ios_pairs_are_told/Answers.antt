use Rattle.fws_place.proofs.IosFits.{pairs_told}
use Rattle.fws_place.proofs.ios_laws.ios_pairs_are_told.Goals as goal

pub returns : goal.returns
returns c = pairs_told
