use Rattle.std.proofs.Common.{ℕ, ◌<◌, List, length, get_or, slice_get, sym, ◌∙◌, ap, subst}
use Rattle.std.proofs.lemmas.Result.{IfOk-weaker}
use Rattle.fws_tree.specs.Building.{AreDifferent}
use Rattle.fws_tree.proofs.other_leaves.with_leaves.Goals as goal

pub finish_counted-requires-clause-different : goal.finish_counted-requires-clause-different
finish_counted-requires-clause-different g c = subst AreDifferent (sym c.as_slice-2.ensures) c.requires.different

pub finish_counted-requires-clause-places : goal.finish_counted-requires-clause-places
finish_counted-requires-clause-places g c = λ p w.
    let z = c.in_ok-root.ensures.loaded p w in
    subst (λ (n : ℕ). n < length c.as_slice-2.result.now) (sym (z.3 ∙ ap (λ (vs : List ℕ). get_or vs z.0 0) c.as_slice.ensures.value))
    (subst (λ ms. get_or c.args.made.now.places.items z.0 0 < length ms) (sym c.as_slice-2.ensures) (c.requires.places z.0 z.2))

pub returns-clause-value : goal.returns-clause-value
returns-clause-value g c = IfOk-weaker c.finish_counted.result _ _ (λ t is p w. let z = c.in_ok-root.ensures.loaded p w in (
  z.0,
  z.1,
  z.2,
  is p w ∙ ap (slice_get c.as_slice-2.result.now) (z.3 ∙ ap (λ (vs : List ℕ). get_or vs z.0 0) c.as_slice.ensures.value)
      ∙ ap (λ ms. slice_get ms (get_or c.args.made.now.places.items z.0 0)) c.as_slice-2.ensures,
)) c.finish_counted.ensures.value
