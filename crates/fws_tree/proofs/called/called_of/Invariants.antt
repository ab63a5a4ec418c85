use Rattle.std.proofs.Common.{◌≡◌, ℕ, nat_eq, take}
use Rattle.std.specs.HashSet.{contains}
use Rattle.fws_tree.specs.Touched.{is_called}
use Rattle.fws_tree.proofs.called.called_of.Given as goal

abbrev pub invariant-loop-number : goal.invariant-loop-number
invariant-loop-number l = (n : ℕ) → contains nat_eq l.called n ≡ is_called (take l.number-index l.numbers) n
