use Rattle.std.proofs.Common.{ℕ, ◌<◌, length, slice_get, sym, ◌∙◌, ap, subst}
use Rattle.std.proofs.lemmas.Result.{IfOk-weaker}
use Rattle.fws_tree.specs.Held.{held_at}
use Rattle.fws_tree.proofs.MadeLeaves.{counted_at}
use Rattle.fws_tree.proofs.finish.finish_counted.Goals as goal

pub finish-requires-clause-places : goal.finish-requires-clause-places
finish-requires-clause-places g c = λ p w.
    let there = c.requires.places p w in
    subst (λ (n : ℕ). n < length c.args.leaves.now)
    (sym (counted_at c.as_slice.result.now (length c.args.leaves.now) (held_at c.args.store.now c.args.at p) (c.as_slice.ensures.value ∙ c.in_ok-places.ensures) there)) there

pub returns-clause-value : goal.returns-clause-value
returns-clause-value g c = IfOk-weaker c.finish.result _ _ (λ t is p w. is p w ∙ ap (slice_get c.args.leaves.now)
    (counted_at c.as_slice.result.now (length c.args.leaves.now) (held_at c.args.store.now c.args.at p) (c.as_slice.ensures.value ∙ c.in_ok-places.ensures) (c.requires.places p w))) c.finish.ensures.value
