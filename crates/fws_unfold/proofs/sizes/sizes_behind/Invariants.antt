use Rattle.std.proofs.Common.{◌≡◌, map, take}
use Rattle.fws_unfold.specs.Levels.{size_behind}
use Rattle.fws_unfold.proofs.sizes.sizes_behind.Given as goal

abbrev pub invariant-loop-shape : goal.invariant-loop-shape
invariant-loop-shape l = l.level.items ≡ map (size_behind l.before) (take l.shape-index l.shapes)
