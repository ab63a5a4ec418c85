use Rattle.fws_net.proofs.SiteRouting.{first_routes}
use Rattle.fws_net.proofs.site_laws.first_forms_route_by_network.Goals as goal

pub returns : goal.returns
returns c = first_routes c.quads_are_dotted.ensures
