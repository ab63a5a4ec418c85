use Rattle.std.proofs.Common.{◌≡◌, map, take}
use Rattle.fws_unfold.specs.Levels.{flag_behind}
use Rattle.fws_unfold.proofs.depth.level_behind.Given as goal

abbrev pub invariant-loop-shape : goal.invariant-loop-shape
invariant-loop-shape l = l.level.items ≡ map (flag_behind l.before) (take l.shape-index l.shapes)
