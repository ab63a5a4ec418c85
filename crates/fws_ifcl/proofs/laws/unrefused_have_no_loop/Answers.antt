use Rattle.fws_ifcl.proofs.Refused.{unrefused_have_no_loop}
use Rattle.fws_ifcl.proofs.laws.unrefused_have_no_loop.Goals as goal

pub returns : goal.returns
returns c = unrefused_have_no_loop
