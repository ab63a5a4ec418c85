use Rattle.fws_load.specs.Load.{rule_line}
use Rattle.fws_load.proofs.Rules.{further_line}
use Rattle.fws_load.proofs.filter.put_rules.Goals as goal

pub loop-k-preserved : goal.loop-k-preserved
loop-k-preserved c = further_line rule_line c.loop-k.k c.args.out.now c.loop-k.out c.put_rule.new.out c.loop-k.invariant c.in_ok-put_rule.ensures
