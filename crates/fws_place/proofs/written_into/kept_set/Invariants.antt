use Rattle.std.proofs.Common.{◌≡◌, ◌-◌, ◌^◌, ◌&&◌, ℕ, nat_lt}
use Rattle.fws_iv.specs.Ivs.{has}
use Rattle.fws_place.specs.Delivered.{is_kept_local}
use Rattle.fws_place.proofs.written_into.kept_set.Given as goal

abbrev pub invariant-loop-lo : goal.invariant-loop-lo
invariant-loop-lo l = (d : ℕ) → has l.out d ≡ (nat_lt d l.from && is_kept_local l.set l.addr l.size d)

abbrev pub decreases-loop-lo : goal.decreases-loop-lo
decreases-loop-lo l = 2 ^ 32 - l.from
