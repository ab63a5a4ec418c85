use Rattle.std.proofs.Common.{sym, ◌∙◌, ap, subst}
use Rattle.std.proofs.lemmas.Option.{slice_get_within}
use Rattle.std.proofs.lemmas.Result.{IfOk-weaker}
use Rattle.fws_tree.specs.Plain.{value}
use Rattle.fws_box.specs.Sides.{IsWithin}
use Rattle.fws_tree.proofs.MadeLeaves.{slice_there}
use Rattle.fws_tree.proofs.tree.Tree.relabel.Goals as goal

pub with_leaves-requires-clause-places : goal.with_leaves-requires-clause-places
with_leaves-requires-clause-places g c = λ n lt. let a = slice_there c.shared-shared.result.leaves.now n lt in slice_get_within _ _ _ (c.in_ok-made.ensures.places n a.0 a.1)

pub returns-clause-value : goal.returns-clause-value
returns-clause-value g c = IfOk-weaker c.with_leaves.result _ _ (λ t is p w.
    let z = is p (subst (λ ts. IsWithin ts p) (sym c.tops-tops.ensures.value) w) in
    let a = slice_there c.shared-shared.result.leaves.now z.0 z.2 in
    (a.0, ap (λ t. value t p) c.shared-shared.ensures.last ∙ z.1 ∙ a.1, z.3 ∙ c.in_ok-made.ensures.places z.0 a.0 a.1)) c.with_leaves.ensures.value
