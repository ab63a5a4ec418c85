use Rattle.std.proofs.Common.{◌≡◌, ℕ, true, false, take}
use Rattle.fws_iv.specs.Ivs.{has}
use Rattle.fws_place.specs.Delivered.{is_kept_local}
use Rattle.fws_place.proofs.delivering.kept_local_of.Given as goal

abbrev pub invariant-loop-part : goal.invariant-loop-part
invariant-loop-part l = (d : ℕ) → has (take l.part-index l.part-items) d ≡ true → is_kept_local l.fn.local l.fn.addr l.fn.size d ≡ false
