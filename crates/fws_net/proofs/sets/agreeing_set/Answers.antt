use Rattle.std.proofs.Common.{ℕ, List, [], ◌∷◌, ◌≡◌, ap, ◌∙◌}
use Rattle.std.proofs.lemmas.Result.{IfOk-weaker}
use Rattle.fws_iv.specs.declared.iv.Iv.{Iv}
use Rattle.fws_iv.specs.Ivs.{has}
use Rattle.fws_iv.specs.Prefixes.{agree}
use Rattle.fws_net.proofs.Nets.{has_block}
use Rattle.fws_net.proofs.sets.agreeing_set.Goals as goal

pub returns-clause-members : goal.returns-clause-members
returns-clause-members c =
    let range = c.block_range-range.result in
    let P : List Iv → Type 0 = λ s. s ≡ record { lo = range.lo; hi = range.hi } ∷ [] in
    let Q : List Iv → Type 0 = λ s. (v : ℕ) → has s v ≡ agree c.args.len c.args.addr v in
    IfOk-weaker _ P Q (λ s e v. ap (λ t. has t v) e ∙ ap (λ t. has (t ∷ []) v) c.block_range-range.ensures.range ∙ has_block c.args.len c.args.addr v) c.one.ensures
