use Rattle.std.proofs.Common.{ℕ, Bool, ◌&&◌, not, List, ap, ◌∙◌}
use Rattle.std.proofs.lemmas.Result.{IfOk-weaker}
use Rattle.fws_ios_put.specs.Choices.{is_stray, truth, HasTruth}
use Rattle.fws_ios_put.proofs.choosing.known_strays.Goals as goal

pub returns-clause-value : goal.returns-clause-value
returns-clause-value c =
    let site = c.args.site.now in
    let alone = c.in_ok-alone.alone in
    let f : List ℕ → Bool = λ x. is_stray site x && truth alone.1 x in
    let g : List ℕ → Bool = λ x. is_stray site x && (truth c.args.acked_known.now.1 x && not (truth c.args.known.now.1 x)) in
    IfOk-weaker c.of_strays.result (HasTruth site f) (HasTruth site g)
    (λ t h x w. h x w ∙ ap (λ (b : Bool). is_stray site x && b) (c.in_ok-alone.ensures.value x w)) c.of_strays.ensures.value
