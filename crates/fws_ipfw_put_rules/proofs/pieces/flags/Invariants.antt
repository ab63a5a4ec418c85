use Rattle.std.proofs.Common.{◌≡◌, map, take}
use Rattle.fws_ipfw_put_rules.specs.Pieces.{cube_lit}
use Rattle.fws_ipfw_put_rules.proofs.pieces.flags.Given as goal

abbrev pub invariant-loop-cube : goal.invariant-loop-cube
invariant-loop-cube l = l.lits ≡ map cube_lit (take l.cube-index l.cube-items)
