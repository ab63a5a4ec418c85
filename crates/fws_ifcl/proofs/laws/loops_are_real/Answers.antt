use Rattle.fws_ifcl.proofs.Loops.{loops_real}
use Rattle.fws_ifcl.proofs.laws.loops_are_real.Goals as goal

pub returns : goal.returns
returns c = loops_real
