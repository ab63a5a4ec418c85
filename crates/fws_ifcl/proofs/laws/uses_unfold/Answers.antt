use Rattle.fws_ifcl.proofs.Heights.{uses_unfold}
use Rattle.fws_ifcl.proofs.laws.uses_unfold.Goals as goal

pub returns : goal.returns
returns c = uses_unfold
