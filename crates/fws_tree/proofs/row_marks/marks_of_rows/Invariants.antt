use Rattle.std.proofs.Common.{◌≡◌, ◌+◌, map, take}
use Rattle.fws_tree.specs.Marks.{sides_of}
use Rattle.fws_tree.proofs.row_marks.marks_of_rows.Given as goal

abbrev pub invariant-loop-i : goal.invariant-loop-i
invariant-loop-i g l = record {
  sides : map sides_of l.marks.items ≡ map (λ r. r.sides) (take l.i l.rows);
  labels : map (λ m. m.label) l.marks.items ≡ map (λ n. n + 1) (take l.i l.numbers);
}
