use Rattle.std.proofs.Common.{◌≡◌, drop}
use Rattle.std.specs.List.{list_any}
use Rattle.fws_iv.specs.Ivs.{has}
use Rattle.fws_ipfw_put_rules.proofs.root.host_kid.Given as goal

abbrev pub invariant-loop-i : goal.invariant-loop-i
invariant-loop-i l = list_any (λ kid. has kid.set 0) (drop l.i l.kids) ≡ list_any (λ kid. has kid.set 0) l.kids
