use Rattle.fws_num.proofs.Quads.{quad_of-dotted, dotted-quad_of}
use Rattle.fws_num.proofs.laws.quads_are_dotted.Goals as goal

pub returns : goal.returns
returns c = (quad_of-dotted, dotted-quad_of)
