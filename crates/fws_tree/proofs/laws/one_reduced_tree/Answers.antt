use Rattle.fws_tree.proofs.Reduced.{one_reduced}
use Rattle.fws_tree.proofs.laws.one_reduced_tree.Goals as goal

pub returns : goal.returns
returns g c = one_reduced c.same_members_same_list.ensures _
