use Rattle.std.proofs.Common.{◌≡◌, ℕ, true, List, take}
use Rattle.fws_exec.specs.Hulls.{HasAt, HasPoint}
use Rattle.fws_exec.specs.Sheets.{among}
use Rattle.fws_exec.proofs.hulls.hull_of.Given as goal

abbrev pub invariant-loop-number : goal.invariant-loop-number
invariant-loop-number l = record {
  has : (n : ℕ) (p : List ℕ) → among (take l.number-index l.numbers) n ≡ true → HasAt l.hulls n p → HasPoint l.hull p;
}
