use Rattle.fws_ifcl.proofs.Heights.{sizes_unfold}
use Rattle.fws_ifcl.proofs.laws.sizes_unfold.Goals as goal

pub returns : goal.returns
returns c = sizes_unfold
