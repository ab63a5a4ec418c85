use Rattle.fws_num.proofs.Divided.{splits_back}
use Rattle.fws_num.proofs.laws.splits_back.Goals as goal

pub returns : goal.returns
returns c = splits_back
