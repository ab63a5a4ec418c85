use Rattle.std.proofs.Common.{◌≡◌, Bool, false, ◌∙◌, sym}
use Rattle.std.proofs.lemmas.Result.{IfOk-weaker}
use Rattle.fws_ios_put.specs.Choices.{truth}
use Rattle.fws_ios_put.proofs.Leaving.{lacking_by, NoneForTcp, NoneLackingForTcp}
use Rattle.fws_ios_put.proofs.blocks.is_lacking_for_tcp.Goals as goal

pub returns : goal.returns
returns c =
    let site = c.args.site.now in
    let tree = truth c.args.tree.now.1 in
    let none = c.in_ok-none.none in
    let P : Bool → Type 0 = λ b. b ≡ false → NoneForTcp site (truth none.1) in
    let Q : Bool → Type 0 = λ b. b ≡ false → NoneLackingForTcp site tree in
    IfOk-weaker c.is_for_tcp.result P Q (λ b h nowhere x w tcp. lacking_by (tree x) (sym (c.in_ok-none.ensures.value x w) ∙ h nowhere x w tcp)) c.is_for_tcp.ensures
