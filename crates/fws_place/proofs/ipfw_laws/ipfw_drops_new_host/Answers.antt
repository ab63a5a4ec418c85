use Rattle.fws_place.proofs.IpfwViews.{new_host_dropped}
use Rattle.fws_place.proofs.ipfw_laws.ipfw_drops_new_host.Goals as goal

pub returns : goal.returns
returns c = new_host_dropped
