use Rattle.std.proofs.Common.{◌≡◌, length, take, All}
use Rattle.fws_tree.specs.Building.{AreDifferent, AreNumbersOf, Extends}
use Rattle.fws_tree.proofs.numbers.number_rows.Given as goal

abbrev pub invariant-loop-row : goal.invariant-loop-row
invariant-loop-row g l = record {
  sides : All (λ r. length r.sides ≡ 12) (take l.row-index l.rows);
  extends : Extends l.fn.leaves.keys l.leaves.keys;
  different : AreDifferent l.fn.leaves.keys → AreDifferent l.leaves.keys;
  numbers : AreNumbersOf l.leaves.keys l.numbers.items (take l.row-index l.rows);
}
