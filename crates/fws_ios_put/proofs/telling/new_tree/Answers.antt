use Rattle.fws_ios_put.proofs.NewTrees.{new_told}
use Rattle.fws_ios_put.proofs.telling.new_tree.Goals as goal

pub returns : goal.returns
returns c =
    new_told c.args._site.now c.args.tables.now c.in_ok-made.made c.requires (c.views_are_told.ensures c.args._site.now c.args.tables.now c.requires) c.relabelled_trees_are_told.ensures
    c.in_ok-made.ensures.tops c.in_ok-made.ensures.value
