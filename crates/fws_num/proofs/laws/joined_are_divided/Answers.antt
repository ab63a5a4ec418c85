use Rattle.fws_num.proofs.Divided.{divided}
use Rattle.fws_num.proofs.laws.joined_are_divided.Goals as goal

pub returns : goal.returns
returns c = divided
