use Rattle.std.proofs.Common.{◌≡◌, ◌≤◌, ℕ, ◌&&◌, not, List, sym, ◌∙◌, ap}
use Rattle.std.proofs.lemmas.Result.{IfOk-weaker}
use Rattle.fws_iv.specs.declared.iv.Iv.{Iv}
use Rattle.fws_iv.specs.Ivs.{has}
use Rattle.fws_place.specs.ByAck.{acknowledges_as}
use Rattle.fws_place.proofs.AckFlags.{others_are}
use Rattle.fws_place.proofs.ack_flags.ack_flags.Goals as goal

pub returns : goal.returns
returns c =
    let all : List Iv = c.in_ok-one.field-0 in
    let with : List Iv = c.in_ok-with.with in
    let P : List Iv → Type 0 = λ s. (v : ℕ) → has s v ≡ (has all v && not (has with v)) in
    let Q : List Iv → Type 0 = λ s. (v : ℕ) → v ≤ 63 → has s v ≡ acknowledges_as c.args.asked v in
    IfOk-weaker c.minus.result P Q
    (λ s h v le. others_are all with s v c.in_ok-one.ensures (c.in_ok-with.ensures v le) (h v) le ∙ ap (λ b. acknowledges_as b v) (sym c.if-asked.false)) c.minus.ensures
