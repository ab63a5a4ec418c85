use Rattle.std.proofs.Common.{◌≡◌, ℕ, take}
use Rattle.fws_exec.specs.Passing.{is_parted}
use Rattle.fws_exec.specs.Sheets.{among}
use Rattle.fws_exec.proofs.through.apart_of.Given as goal

abbrev pub invariant-loop-group : goal.invariant-loop-group
invariant-loop-group l = (n : ℕ) → among l.numbers.items n ≡ is_parted l.crowded (take l.group-index l.groups) n
