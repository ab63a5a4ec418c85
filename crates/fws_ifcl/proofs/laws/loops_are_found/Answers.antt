use Rattle.fws_ifcl.proofs.Loops.{loops_found}
use Rattle.fws_ifcl.proofs.laws.loops_are_found.Goals as goal

pub returns : goal.returns
returns c = loops_found
