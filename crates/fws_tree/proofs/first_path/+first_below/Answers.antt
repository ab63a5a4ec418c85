use Rattle.std.proofs.Common.{◌<◌, ◌≤◌, ap, sym, refl, ◌∙◌, length, Some, arith}
use Rattle.std.proofs.lemmas.Option.{slice_get_read, slice_get_past}
use Rattle.fws_tree.specs.Rows.{paths_below}
use Rattle.fws_tree.specs.Nodes.{tree_of, relabel}
use Rattle.fws_tree.proofs.WayDown.{tree_is, below_read}
use Rattle.fws_tree.proofs.FirstPath.{rows_at, rows_through, all_left, all_false, kid_rows, left_on, first_left, none_first, below_on, leaf_true, leaf_false, no_leaf}
use Rattle.fws_tree.proofs.first_path.+first_below.Goals as goal
use Rattle.fws_tree.proofs.first_path.+first_below.Goals.{in-Leaf+in-Some+else-leaf, in-Leaf+in_default, in-Cut+else-loop-kid-test}

pub returns-then-leaf : goal.returns-then-leaf
returns-then-leaf t c =
    let is = tree_is c.args.nodes.now c.args.at _ _ c.requires.ordered c.requires.inside c.index-nodes-at.is c.in-Leaf.is in
    let found = c.in-Some.ensures.lookup in
    let lt : c.in-Leaf.place < length c.args.leaves.now = omega (arith, found) in
    let there = slice_get_read c.args.leaves.now (length c.args.leaves.now) c.in-Leaf.place c.in-Some.leaf.now refl lt found.1 in
    rw c.in_ok-copy_sides-in-Leaf.ensures (leaf_true c.args.leaves.now c.args.sides.now (tree_of c.args.nodes.now c.args.at) c.in-Leaf.place is (there ∙ ap Some c.if-leaf.true))

pub loop-kid-init : goal.loop-kid-init
loop-kid-init t c =
    let is = tree_is c.args.nodes.now c.args.at _ _ c.requires.ordered c.requires.inside c.index-nodes-at.is c.in-Cut.is in
    record {
      below = rw c.as_slice-kid-items.ensures (rw c.in-Cut.is at (below_read _ _ _ c.requires.ordered c.requires.inside c.index-nodes-at.is));
      left = rw c.as_slice-kid-items.ensures (all_left _ _ (ap (λ u. paths_below c.args.sides.now (relabel c.args.leaves.now u)) is));
    }

pub returns-then-is_some : goal.returns-then-is_some
returns-then-is_some t c =
    first_left _ _ _ _ c.in_ok-found-in-Cut.found c.loop-kid.invariant.left
    (kid_rows c.args.sides.now c.in-Cut.field c.args.leaves.now c.args.nodes.now c.as_slice-kid-items.result.now c.loop-kid.kid-index c.kid-item.result c.loop-kid-test.true c.kid-item.is)
    (sym c.is_some.ensures ∙ c.if-is_some.true) (rw c.in_ok-next-in-Cut.ensures at c.in_ok-found-in-Cut.ensures)

pub loop-kid-preserved : goal.loop-kid-preserved
loop-kid-preserved t c = record {
  below = below_on c.args.at c.as_slice-kid-items.result.now c.loop-kid.kid-index c.kid-item.result c.loop-kid-test.true c.loop-kid.invariant.below;
  left = left_on _ _ _ _ c.loop-kid.invariant.left
      (kid_rows c.args.sides.now c.in-Cut.field c.args.leaves.now c.args.nodes.now c.as_slice-kid-items.result.now c.loop-kid.kid-index c.kid-item.result c.loop-kid-test.true c.kid-item.is)
      (none_first _ c.in_ok-found-in-Cut.found (sym c.is_some.ensures ∙ c.if-is_some.false) (rw c.in_ok-next-in-Cut.ensures at c.in_ok-found-in-Cut.ensures));
}

pub returns : goal.returns
returns t c = elim c.match-nodes-at.branch [
  | in-Leaf+in-Some+else-leaf w ↦
      let is = tree_is c.args.nodes.now c.args.at _ _ c.requires.ordered c.requires.inside c.index-nodes-at.is w.in-Leaf.is in
      let found = w.in-Some.ensures.lookup in
      let lt : w.in-Leaf.place < length c.args.leaves.now = omega (arith, found) in
      let there = slice_get_read c.args.leaves.now (length c.args.leaves.now) w.in-Leaf.place w.in-Some.leaf.now refl lt found.1 in
      leaf_false c.args.leaves.now c.args.sides.now (tree_of c.args.nodes.now c.args.at) w.in-Leaf.place is (there ∙ ap Some w.if-leaf.false)
  | in-Leaf+in_default w ↦
      let is = tree_is c.args.nodes.now c.args.at _ _ c.requires.ordered c.requires.inside c.index-nodes-at.is w.in-Leaf.is in
      no_leaf c.args.leaves.now c.args.sides.now (tree_of c.args.nodes.now c.args.at) w.in-Leaf.place is (slice_get_past c.args.leaves.now w.in-Leaf.place w.in_default.ensures.lookup.3)
  | in-Cut+else-loop-kid-test w ↦
      let le : length w.as_slice-kid-items.result.now ≤ w.loop-kid.kid-index = omega arith in
      all_false c.args.sides.now w.in-Cut.field c.args.leaves.now c.args.nodes.now w.as_slice-kid-items.result.now w.loop-kid.kid-index _ le w.loop-kid.invariant.left
]
