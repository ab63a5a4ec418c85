use Rattle.std.proofs.Common.{◌≡◌, length}
use Rattle.fws_pf_put_filter.proofs.put.zeros.Given as goal

abbrev pub invariant-loop-i : goal.invariant-loop-i
invariant-loop-i l = length l.sums.items ≡ l._i
