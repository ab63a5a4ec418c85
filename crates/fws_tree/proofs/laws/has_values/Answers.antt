use Rattle.fws_tree.proofs.Reduced.{reduced_has_values}
use Rattle.fws_tree.proofs.laws.has_values.Goals as goal

pub returns : goal.returns
returns g c = reduced_has_values _
