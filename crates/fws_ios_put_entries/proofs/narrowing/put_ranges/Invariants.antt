use Rattle.std.proofs.Common.{◌≡◌, ◌++◌, take}
use Rattle.std.specs.Prelude.{map}
use Rattle.fws_iv.specs.declared.iv.Iv.{Iv}
use Rattle.fws_ios_put_entries.specs.Narrowing.{with_range}
use Rattle.fws_ios_put_entries.proofs.narrowing.put_ranges.Given as goal

abbrev pub invariant-loop-range : goal.invariant-loop-range
invariant-loop-range l = l.paths ≡ l.initial.paths ++ map (λ (range : Iv). with_range l.side range l.path) (take l.range-index l.ranges)
