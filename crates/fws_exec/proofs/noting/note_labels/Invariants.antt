use Rattle.std.proofs.Common.{◌≡◌, length, take}
use Rattle.std.specs.List.{list_any}
use Rattle.fws_exec.specs.Divided.{says_from, AreSet}
use Rattle.fws_exec.proofs.noting.note_labels.Given as goal

abbrev pub invariant-loop-touch : goal.invariant-loop-touch
invariant-loop-touch l = record {
  set : AreSet (λ k. list_any (λ t. says_from l.place t.label k) (take l.touch-index l.touches)) l.initial.reached.items l.reached.items;
  count : length l.reached.items ≡ length l.initial.reached.items;
}
