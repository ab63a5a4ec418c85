use Rattle.std.proofs.Common.{◌≡◌, ◌&&◌, ℕ, nat_eq, nat_lt, bit_and}
use Rattle.fws_iv.specs.Ivs.{has}
use Rattle.fws_box_conditions.proofs.sets.flags_like.Given as goal

abbrev pub invariant-loop-flags : goal.invariant-loop-flags
invariant-loop-flags l = (v : ℕ) → has l.values v ≡ (nat_lt v l.flags && nat_eq (bit_and v l.mask) l.want)
