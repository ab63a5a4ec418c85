use Rattle.std.proofs.Common.{◌≡◌, map, take}
use Rattle.fws_ipt_put_chains.specs.Conds.{cube_cond}
use Rattle.fws_ipt_put_chains.proofs.pieces.flags.Given as goal

abbrev pub invariant-loop-cube : goal.invariant-loop-cube
invariant-loop-cube l = l.conds ≡ map cube_cond (take l.cube-index l.cube-items)
