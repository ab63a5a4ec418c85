use Rattle.std.proofs.Common.{◌++◌, drop, ap, arith}
use Rattle.fws_pfo_ifcl.specs.Blocks.{quick_rulings}
use Rattle.fws_pfo_ifcl.specs.Rulings.{rulings_of}
use Rattle.fws_pfo_ifcl.proofs.Standing.{none_behind, none_left, quick_put}
use Rattle.fws_pfo_ifcl.proofs.tail.put_quick_rules.Goals as goal

pub loop-rule-preserved : goal.loop-rule-preserved
loop-rule-preserved c =
    let outward = c.args.outward in
    let tail = c.args.tail.now in
    quick_put outward tail c.loop-rule.rule-index c.rule-item.result c.decides_first.result (rulings_of c.loop-rule.all) (rulings_of c.put_deciding.new.all)
    (rulings_of c.args.all.now ++ quick_rulings outward tail) (omega arith) c.rule-item.is c.decides_first.ensures c.in_ok-put_deciding.ensures c.loop-rule.invariant

pub returns : goal.returns
returns c =
    let outward = c.args.outward in
    let tail = c.args.tail.now in
    none_left (rulings_of c.loop-rule.all) (quick_rulings outward (drop c.loop-rule.rule-index tail)) (rulings_of c.args.all.now ++ quick_rulings outward tail)
    (ap (quick_rulings outward) (none_behind tail c.loop-rule.rule-index (omega arith))) c.loop-rule.invariant
