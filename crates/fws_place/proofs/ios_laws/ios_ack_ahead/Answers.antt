use Rattle.fws_place.proofs.IosFits.{ack_ahead}
use Rattle.fws_place.proofs.ios_laws.ios_ack_ahead.Goals as goal

pub returns : goal.returns
returns c = ack_ahead
