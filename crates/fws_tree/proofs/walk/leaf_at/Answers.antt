use Rattle.std.proofs.Common.{[], sym, ap, ◌∙◌}
use Rattle.fws_tree.specs.Plain.{leaf_of}
use Rattle.fws_tree.specs.Nodes.{tree_over, trees_after}
use Rattle.fws_tree.proofs.WayDown.{tree_read}
use Rattle.fws_tree.proofs.walk.leaf_at.Goals as goal

pub returns-in-Leaf : goal.returns-in-Leaf
returns-in-Leaf c = sym (ap leaf_of (tree_read _ _ _ c.requires.ordered c.requires.inside c.index-nodes-at.is ∙ ap (tree_over (trees_after [] c.args.nodes.now)) c.in-Leaf.is))

pub returns-in-Cut : goal.returns-in-Cut
returns-in-Cut c = sym (ap leaf_of (tree_read _ _ _ c.requires.ordered c.requires.inside c.index-nodes-at.is ∙ ap (tree_over (trees_after [] c.args.nodes.now)) c.in-Cut.is))
