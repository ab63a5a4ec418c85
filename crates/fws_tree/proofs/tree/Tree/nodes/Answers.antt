use Rattle.std.proofs.Common.{◌∙◌, sym, subst}
use Rattle.fws_tree.specs.Subtrees.{AreSubtrees}
use Rattle.fws_tree.proofs.Settling.{shared_subtrees}
use Rattle.fws_tree.proofs.tree.Tree.nodes.Goals as goal

pub returns : goal.returns
returns g c =
    let f = c.self.inside in
    let s = shared_subtrees f.tops _ f.leaves f.nodes c.self.invariant.shared in
    (s.0, subst (λ v. AreSubtrees v.1 s.0) c.self.view_is s.1, s.2 ∙ sym c.len.ensures)
