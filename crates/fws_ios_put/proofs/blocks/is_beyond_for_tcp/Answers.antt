use Rattle.std.proofs.Common.{◌≡◌, Bool, false, ◌∙◌, sym}
use Rattle.std.proofs.lemmas.Result.{IfOk-weaker}
use Rattle.fws_ios_put.specs.Choices.{truth}
use Rattle.fws_ios_put.proofs.Leaving.{beyond_by, NoneBeyondForTcp, NoneForTcp}
use Rattle.fws_ios_put.proofs.blocks.is_beyond_for_tcp.Goals as goal

pub returns : goal.returns
returns c =
    let site = c.args.site.now in
    let tree = truth c.args.tree.now.1 in
    let other = truth c.args.other.now.1 in
    let beyond = c.in_ok-beyond.beyond in
    let P : Bool → Type 0 = λ b. b ≡ false → NoneForTcp site (truth beyond.1) in
    let Q : Bool → Type 0 = λ b. b ≡ false → NoneBeyondForTcp site tree other in
    IfOk-weaker c.is_for_tcp.result P Q (λ b h none x w tcp. beyond_by (tree x) (other x) (sym (c.in_ok-beyond.ensures.value x w) ∙ h none x w tcp)) c.is_for_tcp.ensures
