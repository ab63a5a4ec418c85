use Rattle.std.proofs.Common.{◌≡◌, false, nat_eq, take}
use Rattle.std.specs.HashSet.{contains}
use Rattle.fws_exec.specs.Idle.{puts_idle}
use Rattle.fws_exec.proofs.idle.idle_tag.Given as goal

abbrev pub invariant-loop-ins : goal.invariant-loop-ins
invariant-loop-ins l = puts_idle (contains nat_eq l.tested) (take l.ins-index l.code) ≡ false
