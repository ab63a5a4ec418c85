use Rattle.fws_ipt.proofs.Refused.{unrefused_have_no_loop}
use Rattle.fws_ipt.proofs.laws.unrefused_have_no_loop.Goals as goal

pub returns : goal.returns
returns c = unrefused_have_no_loop
