use Rattle.fws_iv.proofs.Apart.{one_holder}
use Rattle.fws_iv.proofs.law.prefixes_are_apart.Goals as goal

pub returns : goal.returns
returns c = λ from ps sound rise v. one_holder from ps sound rise v
