use Rattle.std.proofs.Common.{arith, ◌≤◌, ◌≡◌, length, get_or, subst}
use Rattle.std.proofs.lemmas.List.Elements.{All-more}
use Rattle.fws_tree.proofs.Cells.{extends-refl, extends-trans}
use Rattle.fws_tree.proofs.LeafNumbers.{numbers-more, numbers-all}
use Rattle.fws_tree.proofs.numbers.number_rows.Goals as goal

pub loop-row-preserved : goal.loop-row-preserved
loop-row-preserved g c = record {
  sides = (let z : length (get_or c.args.rows.now c.loop-row.row-index c.row-item.result).sides ≡ 12 = subst (λ r. length r.sides ≡ 12) c.row-item.is c.leaf_of.ensures.sides in
      All-more (λ r. length r.sides ≡ 12) c.args.rows.now c.loop-row.row-index c.row-item.result c.loop-row-test.true c.loop-row.invariant.sides z);
  extends = extends-trans c.args.leaves.now.keys c.loop-row.leaves.keys c.number.new.leaves.keys c.loop-row.invariant.extends c.number.ensures.extends;
  different = λ d. c.number.ensures.different;
  numbers = rw c.in_ok-push.ensures.items
      (numbers-more c.loop-row.leaves.keys c.number.new.leaves.keys c.loop-row.numbers.items c.args.rows.now c.loop-row.row-index c.row-item.result c.in_ok-number.field-0 c.in_ok-leaf.leaf
      c.number.ensures.extends c.loop-row.invariant.numbers c.loop-row-test.true c.row-item.is c.in_ok-leaf.ensures.leaf c.in_ok-number.ensures.place);
}

pub returns-clause-numbers : goal.returns-clause-numbers
returns-clause-numbers g c = numbers-all c.loop-row.leaves.keys _ _ c.args.rows.now c.loop-row.row-index (extends-refl c.loop-row.leaves.keys) c.loop-row.invariant.numbers
    (let le : length c.args.rows.now ≤ c.loop-row.row-index = omega arith in le)
