use Rattle.std.proofs.Common.{◌≡◌, map, take}
use Rattle.fws_unfold.specs.Levels.{is_naming}
use Rattle.fws_unfold.proofs.depth.naming_table.Given as goal

abbrev pub invariant-loop-shape : goal.invariant-loop-shape
invariant-loop-shape l = l.level.items ≡ map is_naming (take l.shape-index l.shapes)
