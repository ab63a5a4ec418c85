use Rattle.std.proofs.Common.{ℕ, Bool, ◌&&◌, ◌||◌, not, List, ap, ◌∙◌}
use Rattle.std.proofs.lemmas.Result.{IfOk-weaker}
use Rattle.fws_ios_put.specs.Choices.{framed, is_stray, is_tcp, truth, HasTruth}
use Rattle.fws_ios_put.proofs.choosing.acked_fresh.Goals as goal

pub returns-clause-value : goal.returns-clause-value
returns-clause-value c =
    let site = c.args.site.now in
    let own = c.in_ok-own.own in
    let lost : List ℕ → Bool = λ x. is_tcp x && (is_stray site x && (truth c.args.acked_known.now.1 x && not (truth c.args.known.now.1 x))) in
    let f : List ℕ → Bool = λ x. truth own.1 x || lost x in
    let g : List ℕ → Bool = λ x. truth c.args.new.now.1 (framed c.args.entry 16 x) || lost x in
    IfOk-weaker c.with_strays.result (HasTruth site f) (HasTruth site g)
    (λ t h x w. h x w ∙ ap (λ (b : Bool). b || lost x) (c.in_ok-own.ensures.value x w)) c.with_strays.ensures.value
