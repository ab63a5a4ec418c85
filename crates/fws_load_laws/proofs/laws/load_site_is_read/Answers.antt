use Rattle.fws_load_laws.proofs.SiteRead.{site_read}
use Rattle.fws_load_laws.proofs.laws.load_site_is_read.Goals as goal

pub returns : goal.returns
returns c = site_read
