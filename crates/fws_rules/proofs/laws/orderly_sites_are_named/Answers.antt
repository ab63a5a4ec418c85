use Rattle.fws_rules.proofs.Named.{orderly_sites_are_named}
use Rattle.fws_rules.proofs.laws.orderly_sites_are_named.Goals as goal

pub returns : goal.returns
returns c = orderly_sites_are_named
