use Rattle.fws_num.proofs.Decimals.{dec_of-decimal}
use Rattle.fws_num.proofs.laws.decimals_are_read.Goals as goal

pub returns : goal.returns
returns c = dec_of-decimal
