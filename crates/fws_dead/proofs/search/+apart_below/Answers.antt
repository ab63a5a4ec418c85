use Rattle.std.proofs.Common.{◌≡◌, ◌-◌, ◌<◌, ◌≤◌, Some, List, length, slice_get, sym, ◌∙◌, ap, subst, refl, arith}
use Rattle.std.specs.List.{AllByRecursion}
use Rattle.std.proofs.lemmas.Option.{slice_get-get_or, slice_get_read}
use Rattle.fws_tree.specs.declared.node.Kid.{Kid}
use Rattle.fws_tree.specs.declared.node.Node.TheVariants.{Leaf, Cut}
use Rattle.fws_tree.specs.Plain.{Plain}
use Rattle.fws_tree.specs.Shared.{subtree_of}
use Rattle.fws_tree_seen.specs.Cuts.{IsCutNode}
use Rattle.fws_dead.proofs.Finding.{Apart, leaf_found, none_passed, kid_found, kid_passed, kids_behind, all_passed}
use Rattle.fws_dead.proofs.Nodes.{NodeLaws}
use Rattle.fws_dead.proofs.search.+apart_below.Goals as goal

pub returns-in-Leaf : goal.returns-in-Leaf
returns-in-Leaf t c tops shared row =
    let nodes = c.args.nodes.now in
    let leaves = c.args.leaves.now in
    let tree : Plain Apart = subtree_of leaves nodes (length nodes - 1) in
    let there : slice_get nodes c.args.at ≡ Some (Leaf c.in-Leaf.place) = slice_get-get_or nodes c.args.at c.index-nodes-at.result c.requires.inside ∙ ap Some (sym c.index-nodes-at.is ∙ c.in-Leaf.is) in
    let l = c.leaf_nodes_are_leaves.ensures tops tree leaves nodes c.args.at c.in-Leaf.place shared there in
    leaf_found c.args.state tops c.args.sides.now (subtree_of leaves nodes c.args.at) l.0 c.apart_at-found.result l.2 (c.apart_at-found.ensures tops l.0 row l.1)

pub loop-kid-init : goal.loop-kid-init
loop-kid-init t c =
    let nodes = c.args.nodes.now in
    let there : slice_get nodes c.args.at ≡ Some (Cut c.in-Cut.field c.in-Cut.kids) = slice_get-get_or nodes c.args.at c.index-nodes-at.result c.requires.inside ∙ ap Some (sym c.index-nodes-at.is ∙ c.in-Cut.is) in
    let before = c.kids_stand_before.ensures nodes c.args.at c.in-Cut.field c.in-Cut.kids c.requires.ordered there in
    record {
      below = subst (λ (ks : List Kid). AllByRecursion (λ k. k.node < c.args.at) ks) (sym c.as_slice-kid-items.ensures) before;
      passed = λ tops shared row. none_passed c.args.state tops c.args.leaves.now nodes c.args.sides.now c.in-Cut.field c.as_slice-kid-items.result.now;
    }

pub returns-then-is_some : goal.returns-then-is_some
returns-then-is_some t c tops shared row =
    let nodes = c.args.nodes.now in
    let leaves = c.args.leaves.now in
    let kids = c.as_slice-kid-items.result.now in
    let tree : Plain Apart = subtree_of leaves nodes (length nodes - 1) in
    let there : slice_get nodes c.args.at ≡ Some (Cut c.in-Cut.field c.in-Cut.kids) = slice_get-get_or nodes c.args.at c.index-nodes-at.result c.requires.inside ∙ ap Some (sym c.index-nodes-at.is ∙ c.in-Cut.is) in
    let node : IsCutNode tops leaves nodes c.args.at c.in-Cut.field kids
    = subst (λ (ks : List Kid). IsCutNode tops leaves nodes c.args.at c.in-Cut.field ks) (sym c.as_slice-kid-items.ensures)
    (c.cut_nodes_part_values.ensures tops tree leaves nodes c.args.at c.in-Cut.field c.in-Cut.kids shared there) in
    let laws : NodeLaws Apart = record { leaf = c.leaf_nodes_are_leaves.ensures; cut = c.cut_nodes_part_values.ensures } in
    let here = slice_get_read kids (length kids) c.loop-kid.kid-index c.kid-item.result refl c.loop-kid-test.true c.kid-item.is in
    kid_found laws c.args.state tops tree leaves nodes c.args.sides.now c.in_ok-next-in-Cut.next c.args.at c.in-Cut.field kids c.loop-kid.kid-index c.kid-item.result c.in_ok-found-in-Cut.found
    shared c.requires.inside node row c.in_ok-next-in-Cut.ensures here (sym c.is_some.ensures ∙ c.if-is_some.true) (λ narrow. c.in_ok-found-in-Cut.ensures tops shared narrow)

pub loop-kid-preserved : goal.loop-kid-preserved
loop-kid-preserved t c =
    let nodes = c.args.nodes.now in
    let leaves = c.args.leaves.now in
    let kids = c.as_slice-kid-items.result.now in
    let tree : Plain Apart = subtree_of leaves nodes (length nodes - 1) in
    let there : slice_get nodes c.args.at ≡ Some (Cut c.in-Cut.field c.in-Cut.kids) = slice_get-get_or nodes c.args.at c.index-nodes-at.result c.requires.inside ∙ ap Some (sym c.index-nodes-at.is ∙ c.in-Cut.is) in
    let here = slice_get_read kids (length kids) c.loop-kid.kid-index c.kid-item.result refl c.loop-kid-test.true c.kid-item.is in
    record {
      below = kids_behind c.args.at kids c.loop-kid.kid-index c.kid-item.result c.loop-kid-test.true c.loop-kid.invariant.below;
      passed = λ tops shared row.
          kid_passed c.args.state tops leaves nodes c.args.sides.now c.in_ok-next-in-Cut.next c.args.at c.in-Cut.field kids c.loop-kid.kid-index c.kid-item.result c.in_ok-found-in-Cut.found
          (subst (λ (ks : List Kid). IsCutNode tops leaves nodes c.args.at c.in-Cut.field ks) (sym c.as_slice-kid-items.ensures)
          (c.cut_nodes_part_values.ensures tops tree leaves nodes c.args.at c.in-Cut.field c.in-Cut.kids shared there))
          row c.in_ok-next-in-Cut.ensures here (sym c.is_some.ensures ∙ c.if-is_some.false) (λ narrow. c.in_ok-found-in-Cut.ensures tops shared narrow)
          (c.loop-kid.invariant.passed tops shared row);
    }

pub returns : goal.returns
returns t c tops shared row =
    let nodes = c.args.nodes.now in
    let leaves = c.args.leaves.now in
    let kids = c.as_slice-kid-items.result.now in
    let tree : Plain Apart = subtree_of leaves nodes (length nodes - 1) in
    let there : slice_get nodes c.args.at ≡ Some (Cut c.in-Cut.field c.in-Cut.kids) = slice_get-get_or nodes c.args.at c.index-nodes-at.result c.requires.inside ∙ ap Some (sym c.index-nodes-at.is ∙ c.in-Cut.is) in
    let node : IsCutNode tops leaves nodes c.args.at c.in-Cut.field kids
    = subst (λ (ks : List Kid). IsCutNode tops leaves nodes c.args.at c.in-Cut.field ks) (sym c.as_slice-kid-items.ensures)
    (c.cut_nodes_part_values.ensures tops tree leaves nodes c.args.at c.in-Cut.field c.in-Cut.kids shared there) in
    let laws : NodeLaws Apart = record { leaf = c.leaf_nodes_are_leaves.ensures; cut = c.cut_nodes_part_values.ensures } in
    let le : length kids ≤ c.loop-kid.kid-index = omega arith in
    all_passed laws c.args.state tops tree leaves nodes c.args.sides.now c.args.at c.in-Cut.field kids c.loop-kid.kid-index shared c.requires.inside node le (c.loop-kid.invariant.passed tops shared row)
