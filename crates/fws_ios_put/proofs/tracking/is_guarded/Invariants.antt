use Rattle.std.proofs.Common.{◌≡◌, drop}
use Rattle.fws_ios_put.specs.Placed.{is_guarded}
use Rattle.fws_ios_put.proofs.tracking.is_guarded.Given as goal

abbrev pub invariant-loop-group : goal.invariant-loop-group
invariant-loop-group l = is_guarded (drop l.group-index l.groups) l.face ≡ is_guarded l.groups l.face
