use Rattle.std.proofs.Common.{◌++◌, drop, ap, arith}
use Rattle.fws_pf_ifcl.specs.Blocks.{quick_rules}
use Rattle.fws_pf_ifcl.proofs.Deciding.{none_behind, none_left, quick_put}
use Rattle.fws_pf_ifcl.proofs.tail.put_quick_rules.Goals as goal

pub loop-rule-preserved : goal.loop-rule-preserved
loop-rule-preserved c =
    let outward = c.args.outward in
    let tail = c.args.tail.now in
    quick_put c.decisions_stand_by_parts.ensures outward tail c.loop-rule.rule-index c.rule-item.result c.loop-rule.all c.put_quick_rule.new.all
    (c.args.all.now ++ quick_rules outward tail) (omega arith) c.rule-item.is c.in_ok-put_quick_rule.ensures c.loop-rule.invariant

pub returns : goal.returns
returns c =
    let outward = c.args.outward in
    let tail = c.args.tail.now in
    none_left c.loop-rule.all (quick_rules outward (drop c.loop-rule.rule-index tail)) (c.args.all.now ++ quick_rules outward tail)
    (ap (quick_rules outward) (none_behind tail c.loop-rule.rule-index (omega arith))) c.loop-rule.invariant
