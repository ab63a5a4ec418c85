use Rattle.std.proofs.Common.{◌≡◌, drop}
use Rattle.std.specs.List.{list_any}
use Rattle.fws_iv.specs.Ivs.{has}
use Rattle.fws_ipt_put_chains.proofs.default.kid_with.Given as goal

abbrev pub invariant-loop-i : goal.invariant-loop-i
invariant-loop-i l = list_any (λ kid. has kid.set l.v) (drop l.i l.kids) ≡ list_any (λ kid. has kid.set l.v) l.kids
