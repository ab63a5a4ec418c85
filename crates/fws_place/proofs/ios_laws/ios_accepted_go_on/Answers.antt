use Rattle.fws_place.proofs.IosFits.{accepted_go_on}
use Rattle.fws_place.proofs.ios_laws.ios_accepted_go_on.Goals as goal

pub returns : goal.returns
returns c = accepted_go_on
