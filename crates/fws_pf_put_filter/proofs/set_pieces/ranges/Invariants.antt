use Rattle.std.proofs.Common.{◌≡◌, map, take}
use Rattle.fws_pf_put_filter.specs.Pieces.{range_lit}
use Rattle.fws_pf_put_filter.proofs.set_pieces.ranges.Given as goal

abbrev pub invariant-loop-part : goal.invariant-loop-part
invariant-loop-part l = l.lits ≡ map (range_lit l.field) (take l.part-index l.parts)
