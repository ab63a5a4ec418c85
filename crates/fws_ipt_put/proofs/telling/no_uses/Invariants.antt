use Rattle.std.proofs.Common.{◌≡◌, length}
use Rattle.fws_ipt_put.proofs.telling.no_uses.Given as goal

abbrev pub invariant-loop : goal.invariant-loop
invariant-loop l = length l.uses.items ≡ l.counter
