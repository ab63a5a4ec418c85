use Rattle.std.proofs.Common.{◌≡◌, ◌++◌, take}
use Rattle.std.specs.Prelude.{map}
use Rattle.fws_ios_put_entries.specs.Narrowing.{with_number}
use Rattle.fws_ios_put_entries.proofs.narrowing.put_numbers.Given as goal

abbrev pub invariant-loop-n : goal.invariant-loop-n
invariant-loop-n l = l.paths ≡ l.initial.paths ++ map (λ n. with_number l.side n l.path) (take l.n-index l.numbers)
