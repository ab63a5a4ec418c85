use Rattle.std.proofs.Common.{◌≡◌, ◌+◌, ◌++◌, drop}
use Rattle.fws_ipt_put.specs.NatRules.{nat_rules}
use Rattle.fws_ipt_put.proofs.nat.nat_rules.Given as goal

abbrev pub invariant-loop-place : goal.invariant-loop-place
invariant-loop-place l = l.rules ++ nat_rules l.hook (l.place + 5) (drop l.place l.marks) ≡ nat_rules l.hook 5 l.marks
