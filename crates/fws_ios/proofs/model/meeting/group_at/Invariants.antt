use Rattle.std.proofs.Common.{◌≡◌, drop}
use Rattle.fws_ios.specs.Walk.{group_at}
use Rattle.fws_ios.proofs.model.meeting.group_at.Given as goal

abbrev pub invariant-loop-group : goal.invariant-loop-group
invariant-loop-group l = group_at l.outward l.face (drop l.group-index l.groups) ≡ group_at l.outward l.face l.groups
