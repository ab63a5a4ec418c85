use Rattle.fws_ipt.proofs.Texts.{conditions_are_spelled}
use Rattle.fws_ipt.proofs.laws.spelled_conditions.Goals as goal

pub returns : goal.returns
returns c = conditions_are_spelled
