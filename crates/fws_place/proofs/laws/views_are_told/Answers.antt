use Rattle.fws_place.proofs.Telling.{all_told}
use Rattle.fws_place.proofs.laws.views_are_told.Goals as goal

pub returns : goal.returns
returns c = all_told
