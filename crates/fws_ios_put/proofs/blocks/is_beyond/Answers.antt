use Rattle.std.proofs.Common.{◌≡◌, Bool, false}
use Rattle.std.proofs.lemmas.Result.{IfOk-weaker}
use Rattle.fws_ios_put.specs.Choices.{IsNowhere, truth}
use Rattle.fws_ios_put.proofs.Leaving.{none_beyond, NoneBeyond}
use Rattle.fws_ios_put.proofs.blocks.is_beyond.Goals as goal

pub returns : goal.returns
returns c =
    let site = c.args.site.now in
    let tree = truth c.args.tree.now.1 in
    let other = truth c.args.other.now.1 in
    let beyond = c.in_ok-beyond.beyond in
    let P : Bool → Type 0 = λ b. b ≡ false → IsNowhere site beyond.1 in
    let Q : Bool → Type 0 = λ b. b ≡ false → NoneBeyond site tree other in
    IfOk-weaker c.is_somewhere.result P Q (λ b h none. none_beyond site tree other beyond.1 c.in_ok-beyond.ensures.value (h none)) c.is_somewhere.ensures
