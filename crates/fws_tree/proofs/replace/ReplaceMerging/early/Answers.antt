use Rattle.fws_tree.proofs.Replacing.{mark_stays, mark_goes}
use Rattle.fws_tree.proofs.replace.ReplaceMerging.early.Goals as goal

pub returns-then-marked-self-clause-found : goal.returns-then-marked-self-clause-found
returns-then-marked-self-clause-found c = (c.requires.a, λ p. mark_stays _ _ _ _ _ _ _ p c.requires.ordered c.cell.ensures c.in-Leaf.is c.if-marked-self.true)

pub returns-clause-found : goal.returns-clause-found
returns-clause-found c = (c.in_ok-cell.ensures.inside, λ p. mark_goes c.args.store.now c.intern.new.self c.args.a c.args.b c.in-Leaf.n c.args.self.now.value c.in_ok-cell.cell c.args.self.now.marked c.cell.result.now p c.requires.ordered c.cell.ensures c.in-Leaf.is c.if-marked-self.false (c.in_ok-cell.ensures.held p))
