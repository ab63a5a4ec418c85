use Rattle.fws_ipt.proofs.Heights.{walks_unfold}
use Rattle.fws_ipt.proofs.laws.walks_unfold.Goals as goal

pub returns : goal.returns
returns c = walks_unfold
