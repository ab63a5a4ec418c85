use Rattle.fws_rules.proofs.Parts.{regular_parts_make_alike_walks}
use Rattle.fws_rules.proofs.laws.regular_parts_make_alike_walks.Goals as goal

pub returns : goal.returns
returns c = regular_parts_make_alike_walks
