use Rattle.fws_place.proofs.IosFits.{host_passes}
use Rattle.fws_place.proofs.ios_laws.ios_host_passes.Goals as goal

pub returns : goal.returns
returns c = host_passes
