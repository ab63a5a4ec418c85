use Rattle.fws_place.proofs.IosFits.{sources_agree}
use Rattle.fws_place.proofs.ios_laws.ios_sources_agree.Goals as goal

pub returns : goal.returns
returns c = sources_agree
