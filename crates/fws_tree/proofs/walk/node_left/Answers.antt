use Rattle.std.proofs.Common.{◌<◌, [], sym, ap, ◌∙◌, length}
use Rattle.std.specs.List.{AllByRecursion}
use Rattle.fws_tree.specs.Plain.{kid_at}
use Rattle.fws_tree.specs.Nodes.{tree_over, trees_after, tree_of, kids_over}
use Rattle.fws_tree.proofs.WayDown.{tree_read, below_read, leaf_left, cut_left, cut_kept, some_below}
use Rattle.fws_tree.proofs.walk.node_left.Goals as goal

pub returns-in-Leaf-clause-tree : goal.returns-in-Leaf-clause-tree
returns-in-Leaf-clause-tree c = leaf_left (tree_of c.args.nodes.now c.args.at) c.args.field c.args.x c.in-Leaf.field-0
    (tree_read _ _ _ c.requires.ordered c.requires.inside c.index-nodes-at.is ∙ ap (tree_over (trees_after [] c.args.nodes.now)) c.in-Leaf.is)

pub returns-then-cut_field-field-clause-tree : goal.returns-then-cut_field-field-clause-tree
returns-then-cut_field-field-clause-tree c =
    let trees = trees_after [] c.args.nodes.now in
    cut_left (tree_of c.args.nodes.now c.args.at) c.args.field c.in-Cut.cut_field c.args.x (kids_over trees c.in-Cut.kids)
    (tree_read _ _ _ c.requires.ordered c.requires.inside c.index-nodes-at.is ∙ ap (tree_over trees) c.in-Cut.is) c.if-cut_field-field.true
    ∙ ap (λ ks. kid_at (kids_over trees ks) c.args.x) (sym c.as_slice.ensures) ∙ c.find_kid.ensures.tree trees

pub returns-then-cut_field-field-clause-inside : goal.returns-then-cut_field-field-clause-inside
returns-then-cut_field-field-clause-inside c =
    let b : AllByRecursion (λ k. k.node < c.args.at) c.as_slice.result.now = rw (c.as_slice.ensures)
    (rw c.in-Cut.is at (below_read _ _ _ c.requires.ordered c.requires.inside c.index-nodes-at.is)) in
    some_below c.args.at (length c.args.nodes.now) c.find_kid.result c.requires.inside (c.find_kid.ensures.below c.args.at b)

pub returns-else-cut_field-field-clause-tree : goal.returns-else-cut_field-field-clause-tree
returns-else-cut_field-field-clause-tree c =
    let trees = trees_after [] c.args.nodes.now in
    cut_kept (tree_of c.args.nodes.now c.args.at) c.args.field c.in-Cut.cut_field c.args.x (kids_over trees c.in-Cut.kids)
    (tree_read _ _ _ c.requires.ordered c.requires.inside c.index-nodes-at.is ∙ ap (tree_over trees) c.in-Cut.is) c.if-cut_field-field.false
