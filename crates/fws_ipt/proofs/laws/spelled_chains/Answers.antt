use Rattle.fws_ipt.proofs.Texts.{chains_are_named}
use Rattle.fws_ipt.proofs.laws.spelled_chains.Goals as goal

pub returns : goal.returns
returns c = chains_are_named
