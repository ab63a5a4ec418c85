use Rattle.fws_ipfw_read.proofs.Known.{redirects_now}
use Rattle.fws_ipfw_read.proofs.instances.Known.redirects.Goals as goal

pub returns-in-Some : goal.returns-in-Some
returns-in-Some c = redirects_now c.args.number _ _ _ c.self.view_is c.in-Some.ensures.value

pub returns-in-None : goal.returns-in-None
returns-in-None c = redirects_now c.args.number _ _ _ c.self.view_is c.in-None.ensures.value
