use Rattle.std.proofs.Common.{◌≡◌, ◌||◌, ℕ, nat_eq, take}
use Rattle.std.specs.HashSet.{contains}
use Rattle.fws_exec.specs.Idle.{tests_tag}
use Rattle.fws_exec.proofs.idle.add_tested.Given as goal

abbrev pub invariant-loop-lit : goal.invariant-loop-lit
invariant-loop-lit l = (n : ℕ) → contains nat_eq l.tested n ≡ (contains nat_eq l.initial.tested n || tests_tag n (take l.lit-index l.lits))
