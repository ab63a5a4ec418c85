use Rattle.std.proofs.Common.{◌≡◌, ℕ, true, take}
use Rattle.fws_exec.specs.declared.spot.Class.{Class}
use Rattle.fws_exec.specs.Sheets.{among, IsUsed}
use Rattle.fws_exec.specs.Views.{tags_fit}
use Rattle.fws_exec.proofs.roll.Roll.all_fit.Given as goal

abbrev pub invariant-loop-number : goal.invariant-loop-number
invariant-loop-number l = (n : ℕ) (c : Class) → among (take l.number-index l.group.numbers.items) n ≡ true → IsUsed l.self.classes.items n c → tags_fit c.progress.tags l.cond ≡ true
