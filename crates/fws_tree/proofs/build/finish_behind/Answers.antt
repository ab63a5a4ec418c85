use Rattle.std.proofs.Common.{ℕ, ◌<◌, List, length, get_or, slice_get, sym, ◌∙◌, ap, subst}
use Rattle.std.proofs.lemmas.Result.{IfOk-weaker}
use Rattle.fws_tree.specs.Held.{held_at}
use Rattle.fws_tree.proofs.build.finish_behind.Goals as goal

pub finish-requires-clause-places : goal.finish-requires-clause-places
finish-requires-clause-places g c = λ p w. subst (λ (ps : List ℕ). get_or ps (held_at c.args.store.now c.args.at p) 0 < length c.args.leaves.now)
    (sym (c.as_slice.ensures.value ∙ c.in_ok-places.ensures)) (c.requires.places p w)

pub returns-clause-value : goal.returns-clause-value
returns-clause-value g c = IfOk-weaker c.finish.result _ _ (λ t is p w. is p w
    ∙ ap (λ (ps : List ℕ). slice_get c.args.leaves.now (get_or ps (held_at c.args.store.now c.args.at p) 0)) (c.as_slice.ensures.value ∙ c.in_ok-places.ensures)) c.finish.ensures.value
