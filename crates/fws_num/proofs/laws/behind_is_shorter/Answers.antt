use Rattle.fws_num.proofs.Divided.{behind_shorter}
use Rattle.fws_num.proofs.laws.behind_is_shorter.Goals as goal

pub returns : goal.returns
returns c = behind_shorter
