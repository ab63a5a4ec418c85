use Rattle.std.proofs.Common.{◌≡◌, false, Some, slice_get, sym, ◌∙◌, ap}
use Rattle.std.proofs.lemmas.Option.{same_Some, slice_get-get_or}
use Rattle.fws_tree.specs.declared.node.Node.TheVariants.{Leaf}
use Rattle.fws_tree.specs.Plain.{leaf}
use Rattle.fws_ios_put_lists.proofs.default.leaf_at.Goals as goal

pub bounds-sheet-n : goal.bounds-sheet-n
bounds-sheet-n c =
    let nodes = c.args.sheet.now.nodes.now in
    let there : slice_get nodes c.args.node ≡ Some (Leaf c.in-Leaf.n) = slice_get-get_or nodes c.args.node c.index-sheet-node.result c.requires.inside ∙ ap Some c.in-Leaf.is in
    c.requires.planned.shared.named c.args.node c.in-Leaf.n there

pub returns-in-Leaf : goal.returns-in-Leaf
returns-in-Leaf c =
    let sheet = c.args.sheet.now in
    let nodes = sheet.nodes.now in
    let leaves = sheet.leaves.now in
    let there : slice_get nodes c.args.node ≡ Some (Leaf c.in-Leaf.n) = slice_get-get_or nodes c.args.node c.index-sheet-node.result c.requires.inside ∙ ap Some c.in-Leaf.is in
    let l = c.leaf_nodes_are_leaves.ensures sheet.tree.now.0 sheet.tree.now.1 leaves nodes c.args.node c.in-Leaf.n c.requires.planned.shared there in
    let low = c.requires.planned.shared.named c.args.node c.in-Leaf.n there in
    l.2 ∙ ap leaf (same_Some _ _ (sym l.1 ∙ slice_get-get_or leaves c.in-Leaf.n false low))
