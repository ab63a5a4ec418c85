use Rattle.std.proofs.Common.{ℕ, List, ◌≡◌, ap, ◌∙◌}
use Rattle.std.specs.List.{list_any}
use Rattle.std.proofs.lemmas.Result.{IfOk-weaker}
use Rattle.fws_iv.specs.declared.iv.Iv.{Iv}
use Rattle.fws_iv.specs.Ivs.{has}
use Rattle.fws_net.specs.Routes.{has_addr}
use Rattle.fws_net.proofs.Owned.{has_all_own}
use Rattle.fws_net.proofs.sets.all_own_set.Goals as goal

pub returns-clause-members : goal.returns-clause-members
returns-clause-members c =
    let ranges = c.as_slice.result.now in
    let P : List Iv → Type 0 = λ s. (v : ℕ) → has s v ≡ has ranges v in
    let Q : List Iv → Type 0 = λ s. (a : ℕ) → has s a ≡ list_any (λ face. has_addr face a) c.args.faces.now in
    IfOk-weaker _ P Q (λ s e a. e a ∙ ap (λ t. has t a) (c.as_slice.ensures.value ∙ c.in_ok-ranges.ensures.ranges) ∙ has_all_own c.args.faces.now a) c.of_ranges.ensures.members
