use Rattle.std.proofs.Common.{◌≡◌, map, take}
use Rattle.fws_pf_put_filter.specs.Pieces.{cube_lit}
use Rattle.fws_pf_put_filter.proofs.set_pieces.flags.Given as goal

abbrev pub invariant-loop-cube : goal.invariant-loop-cube
invariant-loop-cube l = l.lits ≡ map cube_lit (take l.cube-index l.cube-items)
