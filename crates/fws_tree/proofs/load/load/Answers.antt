use Rattle.std.proofs.Common.{◌-◌, ◌<◌, ◌∙◌, length, arith}
use Rattle.std.proofs.lemmas.List.{get_or_default}
use Rattle.fws_tree.proofs.Loading.{tree_loaded}
use Rattle.fws_tree.proofs.load.load.Goals as goal

pub returns-clause-loaded : goal.returns-clause-loaded
returns-clause-loaded g c =
    let some = c.requires.shared.some in
    let many = c.in_ok-at.ensures.many in
    let lt : length c.args.tree.now.nodes.now - 1 < length c.in_ok-at.at.items = omega arith in
    tree_loaded c.args.tops.now c.args.tree.now.leaves.now c.args.tree.now.nodes.now c.args.values.now c.load_nodes.new.store c.in_ok-at.at.items c.index.result.now c.requires.shared c.in_ok-at.ensures.loaded c.in_ok-at.ensures.many
    (c.index.ensures ∙ get_or_default c.in_ok-at.at.items (length c.args.tree.now.nodes.now - 1) c.index.result.now 0 lt)
