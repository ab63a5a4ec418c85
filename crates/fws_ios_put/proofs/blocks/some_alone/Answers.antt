use Rattle.std.proofs.Common.{◌≡◌, Bool, false}
use Rattle.std.proofs.lemmas.Result.{IfOk-weaker}
use Rattle.fws_ios_put.specs.Choices.{NoneAlone, truth}
use Rattle.fws_ios_put.proofs.Leaving.{NoneBeyondForTcp}
use Rattle.fws_ios_put.proofs.blocks.some_alone.Goals as goal

pub returns : goal.returns
returns c =
    let site = c.args.site.now in
    let choices = c.args.c.now in
    let P : Bool → Type 0 = λ b. b ≡ false → NoneBeyondForTcp site (truth choices.acked_known.1) (truth choices.acked_fresh.1) in
    let Q : Bool → Type 0 = λ b. b ≡ false → NoneAlone site choices in
    IfOk-weaker c.is_beyond_for_tcp.result P Q (λ b h none. record { plain = c.in_ok-is_beyond.ensures c.if-branch.false; acked = h none }) c.is_beyond_for_tcp.ensures
