use Rattle.fws_net.proofs.SiteOrderly.{read_orderly}
use Rattle.fws_net.proofs.site_laws.read_sites_are_orderly.Goals as goal

pub returns : goal.returns
returns c = read_orderly c.quads_are_dotted.ensures
