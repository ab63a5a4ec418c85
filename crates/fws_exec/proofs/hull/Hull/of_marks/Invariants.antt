use Rattle.std.proofs.Common.{◌≡◌, ◌≢◌, ℕ, List, length, take}
use Rattle.fws_tree.specs.Marks.{mark_at}
use Rattle.fws_exec.specs.Hulls.{HasPoint}
use Rattle.fws_exec.proofs.hull.Hull.of_marks.Given as goal

abbrev pub invariant-loop-mark : goal.invariant-loop-mark
invariant-loop-mark l = record {
  has : (p : List ℕ) → length p ≡ 12 → mark_at (take l.mark-index l.marks) 0 p ≢ 0 → HasPoint l.hull p;
}
