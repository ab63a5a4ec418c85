use Rattle.fws_top.proofs.LoadsShown.{loads_shown}
use Rattle.fws_top.proofs.laws.loads_are_shown.Goals as goal

pub returns : goal.returns
returns c = loads_shown c.load_site_is_read.ensures c.load_texts_are_read.ensures c.load_configs_are_not_refused.ensures
