use Rattle.std.proofs.Common.{◌≡◌, ◌||◌, ℕ, take}
use Rattle.fws_exec.specs.Sheets.{among}
use Rattle.fws_exec.proofs.through.put_all.Given as goal

abbrev pub invariant-loop-number : goal.invariant-loop-number
invariant-loop-number l = (n : ℕ) → among l.all.items n ≡ (among l.initial.all.items n || among (take l.number-index l.numbers) n)
