use Rattle.fws_ifcl.proofs.Heights.{sizes_stand_still}
use Rattle.fws_ifcl.proofs.laws.sizes_stand_still.Goals as goal

pub returns : goal.returns
returns c = sizes_stand_still
