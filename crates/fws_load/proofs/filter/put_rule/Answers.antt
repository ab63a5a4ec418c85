use Rattle.fws_load.proofs.Rules.{five_put}
use Rattle.fws_load.proofs.filter.put_rule.Goals as goal

pub returns : goal.returns
returns c = five_put c.args.out.now _ _ _ _ _ _ _ _ _ _
    c.in_ok-put_numbered.ensures c.in_ok-put_numbered-2.ensures c.in_ok-put_numbered-3.ensures c.in_ok-put_numbered-4.ensures c.in_ok-put.ensures.ok
