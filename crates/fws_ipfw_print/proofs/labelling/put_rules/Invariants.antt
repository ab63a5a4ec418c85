use Rattle.std.proofs.Common.{◌≡◌, ◌++◌, drop, map}
use Rattle.fws_ipfw_print.specs.Labels.{rule_label}
use Rattle.fws_ipfw_print.proofs.labelling.put_rules.Given as goal

abbrev pub invariant-loop-rule : goal.invariant-loop-rule
invariant-loop-rule l = l.labels.items ++ map rule_label (drop l.rule-index l.rules) ≡ l.fn.labels.items ++ map rule_label l.rules
