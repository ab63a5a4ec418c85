use Rattle.fws_pfo_ifcl.proofs.Putting.{pass_put}
use Rattle.fws_pfo_ifcl.proofs.diagram.pass_rules.Goals as goal

pub returns : goal.returns
returns c =
    pass_put c.args.outward c.args.c.now c.in_ok-frame.frame c.in_ok-rules.rules.items c.put_filter_rules.new.rules.items c.as_slice.result.now c.in_ok-frame.ensures
    c.in_ok-rules.ensures c.as_slice.ensures c.in_ok-put_filter_rules.ensures
