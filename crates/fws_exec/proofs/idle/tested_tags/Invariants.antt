use Rattle.std.proofs.Common.{◌≡◌, ℕ, nat_eq, take}
use Rattle.std.specs.HashSet.{contains}
use Rattle.fws_exec.specs.Idle.{is_tested}
use Rattle.fws_exec.proofs.idle.tested_tags.Given as goal

abbrev pub invariant-loop-ins : goal.invariant-loop-ins
invariant-loop-ins l = (n : ℕ) → contains nat_eq l.tested n ≡ is_tested (take l.ins-index l.code) n
