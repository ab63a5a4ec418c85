use Rattle.fws_place.proofs.PfFits.{pairs_pass}
use Rattle.fws_place.proofs.pf_laws.pf_pairs_pass.Goals as goal

pub returns : goal.returns
returns c = pairs_pass
