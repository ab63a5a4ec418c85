use Rattle.std.proofs.Common.{◌≡◌, ℕ, ◌<◌, true}
use Rattle.fws_exec.specs.Sheets.{among, AllAt, StandsAt}
use Rattle.fws_exec.proofs.roll.Roll.all_at.Given as goal

abbrev pub invariant-loop-number : goal.invariant-loop-number
invariant-loop-number l = record {
  here : AllAt l.spot l.self.classes.items (among l.numbers.items);
  all : (n : ℕ) → n < l.number → StandsAt l.spot l.self.classes.items n → among l.numbers.items n ≡ true;
}
