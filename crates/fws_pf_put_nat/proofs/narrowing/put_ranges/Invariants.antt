use Rattle.std.proofs.Common.{◌≡◌, ◌++◌, take}
use Rattle.fws_pf_put_nat.specs.Narrowing.{range_paths}
use Rattle.fws_pf_put_nat.proofs.narrowing.put_ranges.Given as goal

abbrev pub invariant-loop-part : goal.invariant-loop-part
invariant-loop-part l = l.paths ≡ l.initial.paths ++ range_paths l.side (take l.part-index l.parts) l.path
