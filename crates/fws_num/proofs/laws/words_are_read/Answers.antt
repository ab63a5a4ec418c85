use Rattle.fws_num.proofs.Writing.{words-read}
use Rattle.fws_num.proofs.laws.words_are_read.Goals as goal

pub returns : goal.returns
returns c = words-read
