use Rattle.fws_load_laws.proofs.NotRefused.{not_refused}
use Rattle.fws_load_laws.proofs.laws.load_configs_are_not_refused.Goals as goal

pub returns : goal.returns
returns c = not_refused
