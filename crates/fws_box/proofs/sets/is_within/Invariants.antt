use Rattle.std.proofs.Common.{◌≡◌, ℕ, true, take}
use Rattle.fws_iv.specs.Ivs.{has}
use Rattle.fws_box.proofs.sets.is_within.Given as goal

abbrev pub invariant-loop-part : goal.invariant-loop-part
invariant-loop-part l = (v : ℕ) → has (take l.part-index l.inner) v ≡ true → has l.outer v ≡ true
