use Rattle.std.proofs.Common.{◌++◌, refl}
use Rattle.fws_pf_ifcl.specs.Blocks.{slow_rules}
use Rattle.fws_pf_ifcl.proofs.Deciding.{slow_begun, slow_put}
use Rattle.fws_pf_ifcl.proofs.tail.put_slow_rules.Goals as goal

pub loop-i-init : goal.loop-i-init
loop-i-init c = slow_begun c.decisions_stand_by_parts.ensures c.args.outward c.args.tail.now _ c.args.all.now refl

pub loop-i-preserved : goal.loop-i-preserved
loop-i-preserved c =
    let r = c.index-tail-i.result in
    slow_put c.decisions_stand_by_parts.ensures c.args.outward c.args.tail.now c.loop-i.i r r c.loop-i.all c.put_slow_rule.new.all
    (c.args.all.now ++ slow_rules c.args.outward c.args.tail.now)
    c.loop-i-test.true c.loop-i.auto.i c.index-tail-i.is c.in_ok-put_slow_rule.ensures c.loop-i.invariant
