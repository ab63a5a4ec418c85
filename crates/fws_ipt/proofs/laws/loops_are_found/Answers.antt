use Rattle.fws_ipt.proofs.Loops.{loops_found}
use Rattle.fws_ipt.proofs.laws.loops_are_found.Goals as goal

pub returns : goal.returns
returns c = loops_found
