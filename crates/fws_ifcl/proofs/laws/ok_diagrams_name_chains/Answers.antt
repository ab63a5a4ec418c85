use Rattle.fws_ifcl.proofs.Heights.{ok_diagrams_name_chains}
use Rattle.fws_ifcl.proofs.laws.ok_diagrams_name_chains.Goals as goal

pub returns : goal.returns
returns c = ok_diagrams_name_chains
