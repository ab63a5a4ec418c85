use Rattle.fws_net.proofs.SitePlain.{first_plain}
use Rattle.fws_net.proofs.site_laws.first_forms_are_plain.Goals as goal

pub returns : goal.returns
returns c = first_plain c.quads_are_dotted.ensures
