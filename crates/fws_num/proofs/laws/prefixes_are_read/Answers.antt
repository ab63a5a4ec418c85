use Rattle.fws_num.proofs.Spelled.{prefix_of-spelled}
use Rattle.fws_num.proofs.laws.prefixes_are_read.Goals as goal

pub returns : goal.returns
returns c = prefix_of-spelled
