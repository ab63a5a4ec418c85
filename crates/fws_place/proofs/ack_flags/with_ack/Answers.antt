use Rattle.std.proofs.Common.{◌≡◌, ◌≤◌, ℕ, List, ◌∙◌}
use Rattle.std.proofs.lemmas.Result.{IfOk-weaker}
use Rattle.fws_iv.specs.declared.iv.Iv.{Iv}
use Rattle.fws_iv.specs.Ivs.{has}
use Rattle.fws_place.specs.ByAck.{acknowledges}
use Rattle.fws_place.proofs.AckFlags.{acks, acks_are}
use Rattle.fws_place.proofs.ack_flags.with_ack.Goals as goal

pub returns : goal.returns
returns c =
    let P : List Iv → Type 0 = λ s. (v : ℕ) → has s v ≡ has acks v in
    let Q : List Iv → Type 0 = λ s. (v : ℕ) → v ≤ 63 → has s v ≡ acknowledges v in
    IfOk-weaker c.of_ranges.result P Q (λ s h v le. h v ∙ acks_are v le) c.of_ranges.ensures.members
