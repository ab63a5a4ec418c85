use Rattle.fws_ipt.proofs.Heights.{sizes_unfold}
use Rattle.fws_ipt.proofs.laws.sizes_unfold.Goals as goal

pub returns : goal.returns
returns c = sizes_unfold
