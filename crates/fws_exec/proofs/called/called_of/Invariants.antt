use Rattle.std.proofs.Common.{◌≡◌, ℕ, nat_eq, take}
use Rattle.std.specs.HashSet.{contains}
use Rattle.fws_exec.specs.Sheets.{among}
use Rattle.fws_exec.proofs.called.called_of.Given as goal

abbrev pub invariant-loop-number : goal.invariant-loop-number
invariant-loop-number l = (n : ℕ) → contains nat_eq l.called n ≡ among (take l.number-index l.numbers) n
