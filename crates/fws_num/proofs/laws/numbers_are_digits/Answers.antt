use Rattle.fws_num.proofs.Spelled.{decimal-are_digits}
use Rattle.fws_num.proofs.laws.numbers_are_digits.Goals as goal

pub returns : goal.returns
returns c = decimal-are_digits
