use Rattle.std.proofs.Common.{◌≡◌, ℕ, ◌<◌, ◌≤◌, length, slice_get, option_map}
use Rattle.fws_exec.specs.Stages.{turned}
use Rattle.fws_exec.proofs.sheet.Sheet.turn.Given as goal

abbrev pub invariant-loop-number : goal.invariant-loop-number
invariant-loop-number l = record {
  canvas : l.self.canvas ≡ l.initial.self.canvas;
  hulls : l.self.hulls ≡ l.initial.self.hulls;
  reached : l.self.reached ≡ l.initial.self.reached;
  count : length l.self.roll.classes.items ≡ length l.initial.self.roll.classes.items;
  done : (n : ℕ) → n < l.number → slice_get l.self.roll.classes.items n ≡ option_map (turned l.turn) (slice_get l.initial.self.roll.classes.items n);
  left : (n : ℕ) → l.number ≤ n → slice_get l.self.roll.classes.items n ≡ slice_get l.initial.self.roll.classes.items n;
}
