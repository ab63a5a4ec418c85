use Rattle.std.proofs.Common.{◌≡◌, ◌++◌}
use Rattle.fws_ipfw_put_rules.specs.Turns.{turns_for}
use Rattle.fws_ipfw_put_rules.proofs.turns.put_literals.Given as goal

abbrev pub invariant-loop-lit : goal.invariant-loop-lit
invariant-loop-lit l = l.turns ≡ l.initial.turns ++ turns_for l.node l.yielded
