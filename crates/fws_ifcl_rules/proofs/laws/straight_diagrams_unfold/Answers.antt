use Rattle.fws_ifcl_rules.proofs.Unfolding.{unfolds}
use Rattle.fws_ifcl_rules.proofs.laws.straight_diagrams_unfold.Goals as goal

pub returns : goal.returns
returns c d straight = unfolds d straight
