use Rattle.fws_place.proofs.IosFits.{new_by_ack}
use Rattle.fws_place.proofs.ios_laws.ios_new_by_ack.Goals as goal

pub returns : goal.returns
returns c = new_by_ack
