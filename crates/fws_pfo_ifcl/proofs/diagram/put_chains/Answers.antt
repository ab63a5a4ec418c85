use Rattle.fws_pfo_ifcl.proofs.Putting.{both_passes}
use Rattle.fws_pfo_ifcl.proofs.diagram.put_chains.Goals as goal

pub returns : goal.returns
returns c =
    both_passes c.args.c.now c.args.chains.now c.put_chain.new.chains c.put_chain-2.new.chains c.in_ok-pass_rules.field-0.items
    c.in_ok-pass_rules-2.field-0.items c.in_ok-pass_rules.ensures c.in_ok-pass_rules-2.ensures c.in_ok-put_chain.ensures c.in_ok-put_chain-2.ensures
