use Rattle.std.proofs.Common.{◌≡◌, ℕ, ◌&&◌}
use Rattle.std.specs.Prelude.{nat_lt}
use Rattle.fws_ios_put_sources.specs.Sources.{is_on}
use Rattle.fws_iv.specs.Ivs.{has}
use Rattle.fws_place.specs.Rewritings.{side_of}
use Rattle.fws_ios_put_sources.proofs.sides.entries_on.Given as goal

abbrev pub invariant-loop-entry : goal.invariant-loop-entry
invariant-loop-entry l = (n : ℕ) → has l.set n ≡ (nat_lt n l.entry && is_on l.outside (side_of l.site n))
