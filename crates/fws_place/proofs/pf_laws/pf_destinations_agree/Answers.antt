use Rattle.fws_place.proofs.PfFits.{destinations_agree}
use Rattle.fws_place.proofs.pf_laws.pf_destinations_agree.Goals as goal

pub returns : goal.returns
returns c = destinations_agree
