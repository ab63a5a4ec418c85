use Rattle.std.proofs.Common.{◌≡◌, ℕ, ◌<◌, false}
use Rattle.fws_exec.specs.Classes.{is_before}
use Rattle.fws_exec.specs.Sheets.{stands}
use Rattle.fws_exec.proofs.roll.Roll.are_past.Given as goal

abbrev pub invariant-loop-class : goal.invariant-loop-class
invariant-loop-class l = record {
  none : (n : ℕ) → n < l.class-index → stands (is_before l.place) l.self.classes.items n ≡ false;
}
