use Rattle.std.proofs.Common.{ℕ, Bool, ◌&&◌, not, List, ap, ◌∙◌}
use Rattle.std.proofs.lemmas.Result.{IfOk-weaker}
use Rattle.fws_ios_put.specs.Choices.{is_tcp, truth, HasTruth}
use Rattle.fws_ios_put.proofs.blocks.needed_of.Goals as goal

pub returns-clause-value : goal.returns-clause-value
returns-clause-value c =
    let site = c.args.site.now in
    let wanted = c.in_ok-wanted.wanted in
    let f : List ℕ → Bool = λ x. is_tcp x && truth wanted.1 x in
    let g : List ℕ → Bool = λ x. is_tcp x && (truth c.args.within.now.1 x && not (truth c.args.excused.now.1 x)) in
    IfOk-weaker c.of_tcp.result (HasTruth site f) (HasTruth site g)
    (λ t h x w. h x w ∙ ap (λ (b : Bool). is_tcp x && b) (c.in_ok-wanted.ensures.value x w)) c.of_tcp.ensures.value
