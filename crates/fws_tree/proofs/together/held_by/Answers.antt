use Rattle.std.proofs.Common.{Some, ap, ◌∙◌}
use Rattle.fws_tree.specs.declared.store.Cell.TheVariants.{Leaf}
use Rattle.fws_tree.proofs.Cells.{held_cell}
use Rattle.fws_tree.proofs.together.held_by.Goals as goal

pub returns-in-Leaf : goal.returns-in-Leaf
returns-in-Leaf c = λ p. held_cell c.args.store.now c.args.at (Leaf c.in-Leaf.n) p c.requires.ordered (c.cell.ensures ∙ ap Some c.in-Leaf.is)
