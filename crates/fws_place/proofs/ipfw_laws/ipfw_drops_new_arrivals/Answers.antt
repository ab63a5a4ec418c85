use Rattle.fws_place.proofs.IpfwViews.{new_arrivals_dropped}
use Rattle.fws_place.proofs.ipfw_laws.ipfw_drops_new_arrivals.Goals as goal

pub returns : goal.returns
returns c = new_arrivals_dropped
