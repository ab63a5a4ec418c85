use Rattle.std.proofs.Common.{◌≡◌, Bool, false}
use Rattle.std.proofs.lemmas.Result.{IfOk-weaker}
use Rattle.fws_ios_put.specs.Choices.{IsNowhere, truth}
use Rattle.fws_ios_put.proofs.Leaving.{none_lacking, NoneLacking}
use Rattle.fws_ios_put.proofs.blocks.is_lacking.Goals as goal

pub returns : goal.returns
returns c =
    let site = c.args.site.now in
    let tree = truth c.args.tree.now.1 in
    let none = c.in_ok-none.none in
    let P : Bool → Type 0 = λ b. b ≡ false → IsNowhere site none.1 in
    let Q : Bool → Type 0 = λ b. b ≡ false → NoneLacking site tree in
    IfOk-weaker c.is_somewhere.result P Q (λ b h nowhere. none_lacking site tree none.1 c.in_ok-none.ensures.value (h nowhere)) c.is_somewhere.ensures
