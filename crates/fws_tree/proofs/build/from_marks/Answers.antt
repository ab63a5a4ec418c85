use Rattle.std.proofs.Common.{ℕ, ◌<◌, ◌∷◌, length, get_or, slice_get, sym, ◌∙◌, ap, subst}
use Rattle.std.proofs.lemmas.Result.{IfOk-weaker}
use Rattle.std.specs.List.{range_with_len}
use Rattle.fws_tree.proofs.build.from_marks.Goals as goal

pub finish_behind-requires-clause-places : goal.finish_behind-requires-clause-places
finish_behind-requires-clause-places g c = λ p w. subst (λ (n : ℕ). get_or (c.args.rest ∷ range_with_len 0 (length c.args.leaves.now)) n 0 < length c.args.leaves.now)
    (sym (c.in_ok-root.ensures.held p w)) (c.requires.places p w)

pub returns-clause-value : goal.returns-clause-value
returns-clause-value g c = IfOk-weaker c.finish_behind.result _ _ (λ t is p w. is p w
    ∙ ap (λ (n : ℕ). slice_get c.args.leaves.now (get_or (c.args.rest ∷ range_with_len 0 (length c.args.leaves.now)) n 0)) (c.in_ok-root.ensures.held p w)) c.finish_behind.ensures.value
