use Rattle.std.proofs.Common.{◌-◌, length, Some, sym, ◌∙◌, ap, subst}
use Rattle.std.proofs.lemmas.Option.{slice_get_within}
use Rattle.std.proofs.lemmas.Result.{IfOk-weaker}
use Rattle.fws_box.specs.Sides.{IsWithin, sides_have}
use Rattle.fws_tree.specs.Changed.{changed_value}
use Rattle.fws_tree.specs.Plain.{value}
use Rattle.fws_tree.specs.Shared.{subtree_of}
use Rattle.fws_tree.proofs.change.replaced.Goals as goal

pub replaced_among-requires-clause-value : goal.replaced_among-requires-clause-value
replaced_among-requires-clause-value g c = slice_get_within _ _ _ c.in_ok-made.ensures.value

pub returns-clause-value : goal.returns-clause-value
returns-clause-value g c = IfOk-weaker c.replaced_among.result _ _ (λ t is p w.
    let last = ap (λ t. value t p) c.shared-shared.ensures.last in
    is p (subst (λ ts. IsWithin ts p) (sym c.tops-tops.ensures.value) w)
    ∙ ap (λ o. changed_value c.args.marked (sides_have c.args.sides.now p) o (value (subtree_of c.shared-shared.result.leaves.now c.shared-shared.result.nodes.now (length c.shared-shared.result.nodes.now - 1)) p)) c.in_ok-made.ensures.value
    ∙ ap (changed_value c.args.marked (sides_have c.args.sides.now p) (Some c.args.leaf)) (sym last)) c.replaced_among.ensures.value
