use Rattle.fws_num.proofs.Writing.{texts-read}
use Rattle.fws_num.proofs.laws.texts_are_read.Goals as goal

pub returns : goal.returns
returns c = texts-read
