use Rattle.fws_unfold.proofs.FlattenedUsed.{any_told}
use Rattle.fws_unfold.proofs.laws.told_each.Goals as goal

pub returns : goal.returns
returns c = any_told
