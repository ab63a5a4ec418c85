use Rattle.fws_ipt.proofs.Texts.{networks_are_named}
use Rattle.fws_ipt.proofs.laws.spelled_networks.Goals as goal

pub returns : goal.returns
returns c = networks_are_named
