use Rattle.std.proofs.Common.{◌≡◌, ℕ, true, take}
use Rattle.fws_iv.specs.Ivs.{has}
use Rattle.fws_dead.specs.Laid.{laid_over}
use Rattle.fws_dead.proofs.written.first_apart.Given as goal

abbrev pub invariant-loop-part : goal.invariant-loop-part
invariant-loop-part l = (x : ℕ) → has (take l.part-index l.part-items) x ≡ true → laid_over l.a x ≡ laid_over l.b x
