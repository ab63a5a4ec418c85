use Rattle.fws_tree.proofs.Steps.{over_shows, over_hides}
use Rattle.fws_tree.proofs.over.OverMerging.early.Goals as goal

pub returns-then-n-eq0-clause-found : goal.returns-then-n-eq0-clause-found
returns-then-n-eq0-clause-found c = (c.requires.b, λ p. over_shows _ _ _ _ _ p c.requires.ordered c.cell.ensures c.in-Leaf.is c.if-n-eq0.true)

pub returns-else-n-eq0-clause-found : goal.returns-else-n-eq0-clause-found
returns-else-n-eq0-clause-found c = (c.requires.a, λ p. over_hides _ _ _ _ _ p c.requires.ordered c.cell.ensures c.in-Leaf.is c.if-n-eq0.false)
