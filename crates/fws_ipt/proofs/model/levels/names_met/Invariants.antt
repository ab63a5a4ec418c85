use Rattle.std.proofs.Common.{◌≡◌, drop}
use Rattle.std.specs.List.{list_any}
use Rattle.fws_ipt.specs.Refusals.{all_named}
use Rattle.fws_ipt.specs.Levels.{is_met}
use Rattle.fws_ipt.proofs.model.levels.names_met.Given as goal

abbrev pub invariant-loop-rule : goal.invariant-loop-rule
invariant-loop-rule l = list_any (is_met l.to l.before) (all_named (drop l.rule-index l.rules)) ≡ list_any (is_met l.to l.before) (all_named l.rules)
