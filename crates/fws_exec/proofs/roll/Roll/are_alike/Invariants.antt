use Rattle.std.proofs.Common.{◌≡◌, ℕ, true, take}
use Rattle.fws_exec.specs.declared.spot.Class.{Class}
use Rattle.fws_exec.specs.Sheets.{among, IsUsed}
use Rattle.fws_exec.specs.Views.{seen_by}
use Rattle.fws_exec.proofs.roll.Roll.are_alike.Given as goal

abbrev pub invariant-loop-number : goal.invariant-loop-number
invariant-loop-number l = (n : ℕ) → among (take l.number-index l.group.numbers.items) n ≡ true → (c : Class) × IsUsed l.self.classes.items n c × (seen_by c.progress l.sides n ≡ l.group.view)
