use Rattle.fws_rules.proofs.Alike.{conditions_hold_alike}
use Rattle.fws_rules.proofs.laws.conditions_hold_alike.Goals as goal

pub returns : goal.returns
returns c = conditions_hold_alike
