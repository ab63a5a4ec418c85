use Rattle.std.proofs.Common.{◌≡◌, ℕ, List, drop}
use Rattle.fws_tree.specs.Marks.{mark_at}
use Rattle.fws_exec.specs.Runs.{boxed}
use Rattle.fws_exec.proofs.marks.put_boxes.Given as goal

abbrev pub invariant-loop-area : goal.invariant-loop-area
invariant-loop-area l = (rest : ℕ) (p : List ℕ) → mark_at l.marks.items (boxed (drop l.area-index l.boxes) l.label rest p) p ≡ mark_at l.initial.marks.items (boxed l.boxes l.label rest p) p
