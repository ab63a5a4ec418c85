use Rattle.std.proofs.Common.{◌≡◌, ℕ, take}
use Rattle.fws_exec.specs.Sheets.{among}
use Rattle.fws_exec.specs.Views.{is_in}
use Rattle.fws_exec.proofs.roll.Roll.grouped_all.Given as goal

abbrev pub invariant-loop-number : goal.invariant-loop-number
invariant-loop-number l = (n : ℕ) → is_in l.groups.all.items n ≡ among (take l.number-index l.numbers) n
