use Rattle.fws_place.proofs.PfFits.{keeps_new_packets}
use Rattle.fws_place.proofs.pf_laws.pf_keeps_new_packets.Goals as goal

pub returns : goal.returns
returns c = keeps_new_packets
