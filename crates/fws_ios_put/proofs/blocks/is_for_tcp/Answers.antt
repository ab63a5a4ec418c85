use Rattle.std.proofs.Common.{◌≡◌, Bool, false}
use Rattle.std.proofs.lemmas.Result.{IfOk-weaker}
use Rattle.fws_ios_put.specs.Choices.{IsNowhere, truth}
use Rattle.fws_ios_put.proofs.Leaving.{none_for_tcp, NoneForTcp}
use Rattle.fws_ios_put.proofs.blocks.is_for_tcp.Goals as goal

pub returns : goal.returns
returns c =
    let site = c.args.site.now in
    let tree = truth c.args.tree.now.1 in
    let tcp = c.in_ok-tcp.tcp in
    let P : Bool → Type 0 = λ b. b ≡ false → IsNowhere site tcp.1 in
    let Q : Bool → Type 0 = λ b. b ≡ false → NoneForTcp site tree in
    IfOk-weaker c.is_somewhere.result P Q (λ b h none. none_for_tcp site tree tcp.1 c.in_ok-tcp.ensures.value (h none)) c.is_somewhere.ensures
