use Rattle.std.proofs.Common.{◌≡◌, ℕ, ◌+◌, ◌&&◌}
use Rattle.std.specs.Prelude.{nat_lt}
use Rattle.fws_iv.specs.Ivs.{has}
use Rattle.fws_place.specs.Rewritings.{is_inside, side_of}
use Rattle.fws_place.proofs.crossing.inside_entries.Given as goal

abbrev pub invariant-loop-n : goal.invariant-loop-n
invariant-loop-n l = (e : ℕ) → has l.set e ≡ (is_inside (side_of l.site e) && nat_lt e (l.n + 2))
