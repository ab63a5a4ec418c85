use Rattle.fws_rules.proofs.Regular.{alike_walks_are_regular}
use Rattle.fws_rules.proofs.laws.alike_walks_are_regular.Goals as goal

pub returns : goal.returns
returns c = alike_walks_are_regular
