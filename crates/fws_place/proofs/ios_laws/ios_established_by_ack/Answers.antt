use Rattle.fws_place.proofs.IosFits.{established_by_ack}
use Rattle.fws_place.proofs.ios_laws.ios_established_by_ack.Goals as goal

pub returns : goal.returns
returns c = established_by_ack
