use Rattle.std.proofs.Common.{◌≡◌, map, take}
use Rattle.fws_ipt_put_chains.specs.Conds.{range_cond}
use Rattle.fws_ipt_put_chains.proofs.pieces.ranges.Given as goal

abbrev pub invariant-loop-range : goal.invariant-loop-range
invariant-loop-range l = l.conds ≡ map (range_cond l.field) (take l.range-index l.range-items)
