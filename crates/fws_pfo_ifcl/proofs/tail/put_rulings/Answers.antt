use Rattle.fws_pfo_ifcl.proofs.Putting.{rules_put}
use Rattle.fws_pfo_ifcl.proofs.tail.put_rulings.Goals as goal

pub loop-one-preserved : goal.loop-one-preserved
loop-one-preserved c =
    rules_put c.args.outward c.args.rules.now.items c.loop-one.rules.items c.put_ruling.new.rules.items c.loop-one.yielded c.in-Some.one c.loop-one.invariant
    c.in_ok-put_ruling.ensures
