use Rattle.fws_tree_seen.proofs.Sees.{agrees}
use Rattle.fws_tree_seen.proofs.laws.seen_fields_agree.Goals as goal

pub returns : goal.returns
returns c = agrees
