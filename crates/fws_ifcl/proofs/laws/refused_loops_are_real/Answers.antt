use Rattle.fws_ifcl.proofs.Refused.{refused_loops_are_real}
use Rattle.fws_ifcl.proofs.laws.refused_loops_are_real.Goals as goal

pub returns : goal.returns
returns c = refused_loops_are_real
