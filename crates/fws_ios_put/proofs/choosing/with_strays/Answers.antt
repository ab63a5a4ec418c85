use Rattle.std.proofs.Common.{ℕ, Bool, ◌&&◌, ◌||◌, not, List, ap, ◌∙◌}
use Rattle.std.proofs.lemmas.Result.{IfOk-weaker}
use Rattle.fws_ios_put.specs.Choices.{is_stray, is_tcp, truth, HasTruth}
use Rattle.fws_ios_put.proofs.choosing.with_strays.Goals as goal

pub returns-clause-value : goal.returns-clause-value
returns-clause-value c =
    let site = c.args.site.now in
    let own = c.args.own.now in
    let strays = c.in_ok-strays.strays in
    let f : List ℕ → Bool = λ x. truth own.1 x || truth strays.1 x in
    let g : List ℕ → Bool = λ x. truth own.1 x || (is_tcp x && (is_stray site x && (truth c.args.acked_known.now.1 x && not (truth c.args.known.now.1 x)))) in
    IfOk-weaker c.either.result (HasTruth site f) (HasTruth site g)
    (λ t h x w. h x w ∙ ap (λ (b : Bool). truth own.1 x || b) (c.in_ok-strays.ensures.value x w)) c.either.ensures.value
