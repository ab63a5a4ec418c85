use Rattle.fws_num.proofs.Writing.{lines-read}
use Rattle.fws_num.proofs.laws.lines_are_read.Goals as goal

pub returns : goal.returns
returns c = lines-read
