use Rattle.std.proofs.Common.{sym, ◌∙◌, ap, subst}
use Rattle.std.proofs.lemmas.Result.{IfOk-weaker}
use Rattle.fws_box.specs.Sides.{IsWithin}
use Rattle.fws_tree.specs.Paired.{HoldsPairs}
use Rattle.fws_tree.specs.Plain.{value}
use Rattle.fws_tree.proofs.tree.Tree.pair.Goals as goal

pub finish_pairs-requires-clause-held : goal.finish_pairs-requires-clause-held
finish_pairs-requires-clause-held g c =
    subst (λ ps. HoldsPairs c.tops-tops.result.now c.shared-one.result.leaves.now c.shared-one.result.nodes.now c.shared-two.result.leaves.now c.shared-two.result.nodes.now ps c.paired_trees.new.store c.in_ok-whole.whole)
    (sym c.as_slice.ensures) c.in_ok-whole.ensures.held

pub returns-clause-value : goal.returns-clause-value
returns-clause-value g c = IfOk-weaker c.finish_pairs.result _ _ (λ t is p w.
    let z = is p (subst (λ ts. IsWithin ts p) (sym c.tops-tops.ensures.value) w) in
    (z.0, z.1, ap (λ t. value t p) c.shared-one.ensures.last ∙ z.2, ap (λ t. value t p) c.shared-two.ensures.last ∙ z.3, z.4)) c.finish_pairs.ensures.value
