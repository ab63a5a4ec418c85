use Rattle.fws_pf_ifcl.specs.Blocks.{quick_rules, slow_rules}
use Rattle.fws_pf_ifcl.proofs.Deciding.{both_put}
use Rattle.fws_pf_ifcl.proofs.tail.joined_tail.Goals as goal

pub returns : goal.returns
returns c =
    both_put c.decisions_stand_by_parts.ensures (quick_rules c.args.outward c.args.tail.now) (slow_rules c.args.outward c.args.tail.now)
    c.new-all.result c.put_quick_rules.new.all c.put_slow_rules.new.all c.in_ok-fewer.fewer.items c.new-all.ensures c.in_ok-put_quick_rules.ensures
    c.in_ok-put_slow_rules.ensures c.in_ok-fewer.ensures
