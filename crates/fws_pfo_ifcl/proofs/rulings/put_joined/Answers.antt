use Rattle.fws_pfo_ifcl.proofs.Standing.{joined_put}
use Rattle.fws_pfo_ifcl.proofs.rulings.put_joined.Goals as goal

pub returns : goal.returns
returns c =
    joined_put c.args.to c.args.finished.now c.put_all.new.finished c.in_ok-fewer.fewer.items c.args.decisions c.in_ok-put_all.ensures c.in_ok-fewer.ensures
