use Rattle.std.proofs.Common.{ℕ, ◌<◌, List, length, get_or, slice_get, sym, ◌∙◌, ap, subst}
use Rattle.std.proofs.lemmas.Option.{slice_get_within}
use Rattle.std.proofs.lemmas.Result.{IfOk-weaker}
use Rattle.fws_box.specs.Sides.{sides_have}
use Rattle.fws_tree.specs.Building.{AreDifferent}
use Rattle.fws_tree.specs.Changed.{changed_value}
use Rattle.fws_tree.proofs.MadeLeaves.{slice_there}
use Rattle.fws_tree.proofs.Replacing.{changed_there, changed_below}
use Rattle.fws_tree.proofs.change.replaced_among.Goals as goal

pub finish_counted-requires-clause-different : goal.finish_counted-requires-clause-different
finish_counted-requires-clause-different g c = subst AreDifferent (sym c.as_slice.ensures) c.requires.different

pub finish_counted-requires-clause-places : goal.finish_counted-requires-clause-places
finish_counted-requires-clause-places g c = λ p w.
    let z = c.in_ok-whole.ensures.held p w in
    let a = slice_there c.args.tree.now.leaves.now z.0 z.2 in
    let k : ℕ = get_or c.as_slice-places.result.now z.0 0 in
    let there = ap (λ (vs : List ℕ). slice_get c.args.made.now.leaves (get_or vs z.0 0)) c.as_slice-places.ensures.value ∙ c.requires.places z.0 a.0 a.1 in
    subst (λ (n : ℕ). n < length c.as_slice.result.now) (sym z.3)
    (subst (λ ms. changed_value c.args.by.marked (sides_have c.args.sides.now p) c.args.by.value k < length ms) (sym c.as_slice.ensures)
    (changed_below c.args.by.marked (sides_have c.args.sides.now p) c.args.by.value k (length c.args.made.now.leaves) c.requires.value (slice_get_within c.args.made.now.leaves k a.0 there)))

pub returns-clause-value : goal.returns-clause-value
returns-clause-value g c = IfOk-weaker c.finish_counted.result _ _ (λ t is p w.
    let z = c.in_ok-whole.ensures.held p w in
    let a = slice_there c.args.tree.now.leaves.now z.0 z.2 in
    let k : ℕ = get_or c.as_slice-places.result.now z.0 0 in
    let there = ap (λ (vs : List ℕ). slice_get c.args.made.now.leaves (get_or vs z.0 0)) c.as_slice-places.ensures.value ∙ c.requires.places z.0 a.0 a.1 in
    is p w ∙ ap (slice_get c.as_slice.result.now) z.3 ∙ ap (λ ms. slice_get ms (changed_value c.args.by.marked (sides_have c.args.sides.now p) c.args.by.value k)) c.as_slice.ensures
    ∙ changed_there c.args.made.now.leaves c.args.by.marked (sides_have c.args.sides.now p) c.args.by.value k
    ∙ ap (changed_value c.args.by.marked (sides_have c.args.sides.now p) (slice_get c.args.made.now.leaves c.args.by.value)) (there ∙ sym (z.1 ∙ a.1))) c.finish_counted.ensures.value
