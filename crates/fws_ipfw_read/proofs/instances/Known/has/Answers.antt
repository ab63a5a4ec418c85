use Rattle.fws_ipfw_read.proofs.Known.{has_now}
use Rattle.fws_ipfw_read.proofs.instances.Known.has.Goals as goal

pub returns : goal.returns
returns c = has_now c.args.number _ _ _ c.self.view_is c.contains_key.ensures
