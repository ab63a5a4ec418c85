use Rattle.fws_net.proofs.FirstRefused.{decides}
use Rattle.fws_net.proofs.line_reader.first_refused_decides.Goals as goal

pub returns : goal.returns
returns g c = decides _ _
