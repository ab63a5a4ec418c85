use Rattle.fws_ipt.proofs.Heights.{fitting_names_chains}
use Rattle.fws_ipt.proofs.laws.fitting_names_chains.Goals as goal

pub returns : goal.returns
returns c = fitting_names_chains
