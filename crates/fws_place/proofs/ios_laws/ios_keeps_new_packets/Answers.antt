use Rattle.fws_place.proofs.IosFits.{keeps_new_packets}
use Rattle.fws_place.proofs.ios_laws.ios_keeps_new_packets.Goals as goal

pub returns : goal.returns
returns c = keeps_new_packets
