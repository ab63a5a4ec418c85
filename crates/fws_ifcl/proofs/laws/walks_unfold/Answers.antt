use Rattle.fws_ifcl.proofs.Heights.{walks_unfold}
use Rattle.fws_ifcl.proofs.laws.walks_unfold.Goals as goal

pub returns : goal.returns
returns c = walks_unfold
