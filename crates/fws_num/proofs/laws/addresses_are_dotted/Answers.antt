use Rattle.fws_num.proofs.Spelled.{dotted-are_dotted}
use Rattle.fws_num.proofs.laws.addresses_are_dotted.Goals as goal

pub returns : goal.returns
returns c = dotted-are_dotted
