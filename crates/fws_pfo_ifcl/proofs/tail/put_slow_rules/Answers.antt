use Rattle.std.proofs.Common.{◌++◌, refl}
use Rattle.fws_pfo_ifcl.specs.Blocks.{slow_rulings}
use Rattle.fws_pfo_ifcl.specs.Rulings.{rulings_of}
use Rattle.fws_pfo_ifcl.proofs.Standing.{slow_begun, slow_put}
use Rattle.fws_pfo_ifcl.proofs.tail.put_slow_rules.Goals as goal

pub loop-i-init : goal.loop-i-init
loop-i-init c = slow_begun c.args.outward c.args.tail.now _ (rulings_of c.args.all.now) refl

pub loop-i-preserved : goal.loop-i-preserved
loop-i-preserved c =
    let r = c.index-tail-i.result in
    slow_put c.args.outward c.args.tail.now c.loop-i.i r r c.decides_last.result (rulings_of c.loop-i.all) (rulings_of c.put_deciding.new.all)
    (rulings_of c.args.all.now ++ slow_rulings c.args.outward c.args.tail.now)
    c.loop-i-test.true c.loop-i.auto.i c.index-tail-i.is c.decides_last.ensures c.in_ok-put_deciding.ensures c.loop-i.invariant
