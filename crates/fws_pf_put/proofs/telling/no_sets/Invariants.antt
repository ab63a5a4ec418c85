use Rattle.std.proofs.Common.{◌≡◌, length}
use Rattle.fws_pf_put.proofs.telling.no_sets.Given as goal

abbrev pub invariant-loop : goal.invariant-loop
invariant-loop l = length l.sets.items ≡ l.counter
