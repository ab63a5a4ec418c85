use Rattle.std.proofs.Common.{◌≡◌, nat_eq, take}
use Rattle.std.specs.HashSet.{contains}
use Rattle.fws_exec.specs.Idle.{without_idle}
use Rattle.fws_exec.proofs.idle.are_kept.Given as goal

abbrev pub invariant-loop-ins : goal.invariant-loop-ins
invariant-loop-ins l = take l.ins-index l.code ≡ without_idle (contains nat_eq l.tested) l.mark (take l.ins-index l.code)
