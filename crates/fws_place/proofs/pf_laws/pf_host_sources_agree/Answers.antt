use Rattle.fws_place.proofs.PfFits.{host_sources_agree}
use Rattle.fws_place.proofs.pf_laws.pf_host_sources_agree.Goals as goal

pub returns : goal.returns
returns c = host_sources_agree
