use Rattle.std.proofs.Common.{◌≡◌, false, not, get_or}
use Rattle.std.specs.List.{filter, range_with_len}
use Rattle.fws_dead.proofs.unused.unmarked.Given as goal

abbrev pub invariant-loop-n : goal.invariant-loop-n
invariant-loop-n l = l.numbers.items ≡ filter (λ n. not (get_or l.marks n false)) (range_with_len 0 l.n)
