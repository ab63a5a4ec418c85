use Rattle.std.proofs.Common.{◌≡◌, ℕ, true, Some, slice_get, take}
use Rattle.fws_exec.specs.declared.spot.Class.{Class}
use Rattle.fws_exec.specs.Goings.{Goes}
use Rattle.fws_exec.specs.Sheets.{among}
use Rattle.fws_exec.proofs.roll.Roll.stayers.Given as goal

abbrev pub invariant-loop-number : goal.invariant-loop-number
invariant-loop-number l = record {
  inside : (n : ℕ) → among l.stayers.items n ≡ true → among (take l.number-index l.numbers) n ≡ true;
  stay : (n : ℕ) (c : Class) → among l.stayers.items n ≡ true → slice_get l.self.classes.items n ≡ Some c → Goes l.going 1 c.progress (record { spot = l.spot; progress = c.progress });
}
