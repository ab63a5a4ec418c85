use Rattle.fws_pfo_ifcl.proofs.Putting.{behind_none}
use Rattle.fws_pfo_ifcl.proofs.diagram.chains_of.Goals as goal

pub returns : goal.returns
returns c = behind_none c.args.c.now c.new-chains.result c.put_chains.new.chains c.new-chains.ensures c.in_ok-put_chains.ensures
