use Rattle.fws_ipt.proofs.Loops.{loops_real}
use Rattle.fws_ipt.proofs.laws.loops_are_real.Goals as goal

pub returns : goal.returns
returns c = loops_real
