use Rattle.std.proofs.Common.{◌<◌, ◌++◌, [], ap, sym, subst, refl, ◌∙◌, length, slice_set, arith}
use Rattle.std.proofs.lemmas.Option.{slice_get_read, slice_get_past}
use Rattle.fws_tree.specs.Rows.{paths_below}
use Rattle.fws_tree.specs.Nodes.{tree_of, trees_after, relabel}
use Rattle.fws_tree.proofs.WayDown.{tree_is, below_read}
use Rattle.fws_tree.proofs.PathRows.{leaf_path, no_path, next_paths, kids_behind}
use Rattle.fws_tree.proofs.paths.+take_paths.Goals as goal

pub loop-kid-init : goal.loop-kid-init
loop-kid-init g t c =
    let is = tree_is c.args.nodes.now c.args.at _ _ c.requires.ordered c.requires.inside c.index-nodes-at.is c.in-Cut.is in
    record {
      below = rw c.as_slice-kid-items.ensures (rw c.in-Cut.is at (below_read _ _ _ c.requires.ordered c.requires.inside c.index-nodes-at.is));
      back = refl {a = c.args.sides.now};
      taken = ([], g.met.T.TakesRows.same c.args.by.now, rw c.as_slice-kid-items.ensures (ap (λ u. paths_below c.args.sides.now (relabel c.args.leaves.now u)) (sym is)));
    }

pub loop-kid-preserved : goal.loop-kid-preserved
loop-kid-preserved g t c =
    let taken = c.loop-kid.invariant.taken in
    let here = paths_below c.put_side-former.new.sides (relabel c.args.leaves.now (tree_of c.args.nodes.now c.kid-item.result.node)) in
    record {
      below = kids_behind (λ k. k.node < c.args.at) c.as_slice-kid-items.result.now c.loop-kid.kid-index c.kid-item.result c.loop-kid-test.true c.loop-kid.invariant.below;
      back = c.put_side-set.ensures.put ∙ ap (λ s. slice_set s c.in-Cut.field c.put_side-former.result) c.in_ok-take_paths-in-Cut.ensures.back ∙ c.put_side-former.ensures.back ∙ c.loop-kid.invariant.back;
      taken = (
        taken.0 ++ here,
        g.met.T.TakesRows.then c.args.by.now c.loop-kid.by c.take_paths.new.by taken.0 here taken.1 c.in_ok-take_paths-in-Cut.ensures.took,
        next_paths taken.0 (paths_below c.args.sides.now (relabel c.args.leaves.now (tree_of c.args.nodes.now c.args.at))) c.args.leaves.now (trees_after [] c.args.nodes.now) c.args.sides.now c.put_side-former.new.sides c.in-Cut.field c.as_slice-kid-items.result.now c.loop-kid.kid-index c.kid-item.result
            c.loop-kid-test.true c.kid-item.is
            (c.put_side-former.ensures.put ∙ ap (λ s. slice_set s c.in-Cut.field c.in_ok-set-in-Cut.set) c.loop-kid.invariant.back ∙ ap (λ s. slice_set c.args.sides.now c.in-Cut.field s) c.in_ok-set-in-Cut.ensures)
            taken.2,
      );
    }

pub returns-in_ok-take-in-Leaf-clause-took : goal.returns-in_ok-take-in-Leaf-clause-took
returns-in_ok-take-in-Leaf-clause-took g t c =
    let is = tree_is c.args.nodes.now c.args.at _ _ c.requires.ordered c.requires.inside c.index-nodes-at.is c.in-Leaf.is in
    let found = c.in-Some.ensures.lookup in
    let lt : c.in-Leaf.place < length c.args.leaves.now = omega (arith, found) in
    let there = slice_get_read c.args.leaves.now (length c.args.leaves.now) c.in-Leaf.place c.in-Some.leaf.now refl lt found.1 in
    subst (g.T.TakesRows.took c.args.by.now c.take.new.self)
    (leaf_path c.args.leaves.now c.args.sides.now (tree_of c.args.nodes.now c.args.at) c.in-Leaf.place c.in-Some.leaf.now is there) c.in_ok-take-in-Leaf.ensures

pub returns-in_default-clause-took : goal.returns-in_default-clause-took
returns-in_default-clause-took g t c =
    let is = tree_is c.args.nodes.now c.args.at _ _ c.requires.ordered c.requires.inside c.index-nodes-at.is c.in-Leaf.is in
    let found = c.in_default.ensures.lookup in
    subst (g.T.TakesRows.took c.args.by.now c.args.by.now)
    (no_path c.args.leaves.now c.args.sides.now (tree_of c.args.nodes.now c.args.at) c.in-Leaf.place is (slice_get_past c.args.leaves.now c.in-Leaf.place found.3))
    (g.met.T.TakesRows.same c.args.by.now)
