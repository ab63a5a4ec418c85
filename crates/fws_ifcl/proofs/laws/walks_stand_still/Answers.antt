use Rattle.fws_ifcl.proofs.Heights.{walks_stand_still}
use Rattle.fws_ifcl.proofs.laws.walks_stand_still.Goals as goal

pub returns : goal.returns
returns c = walks_stand_still
