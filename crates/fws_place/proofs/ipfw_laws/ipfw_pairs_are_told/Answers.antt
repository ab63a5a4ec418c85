use Rattle.fws_place.proofs.IpfwViews.{ipfw_told}
use Rattle.fws_place.proofs.ipfw_laws.ipfw_pairs_are_told.Goals as goal

pub returns : goal.returns
returns c = ipfw_told
