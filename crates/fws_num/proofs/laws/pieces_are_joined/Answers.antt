use Rattle.std.proofs.Common.{[], refl}
use Rattle.fws_num.proofs.Divided.{joined, lacking}
use Rattle.fws_num.proofs.laws.pieces_are_joined.Goals as goal

pub returns : goal.returns
returns c = λ byte text. (joined byte [] text, lacking byte [] text refl)
