use Rattle.std.proofs.Common.{◌≡◌, ◌++◌}
use Rattle.fws_ipt_put_chains.specs.Rules.{rules_of}
use Rattle.fws_ipt_put_chains.proofs.rules.put_rules.Given as goal

abbrev pub invariant-loop-cond : goal.invariant-loop-cond
invariant-loop-cond l = l.rules ≡ l.initial.rules ++ rules_of l.go l.yielded
