use Rattle.std.proofs.Common.{◌≡◌, ℕ, ◌∙◌}
use Rattle.std.proofs.lemmas.Result.{IfOk-weaker}
use Rattle.fws_pf.specs.RuleText.{place_of}
use Rattle.fws_pf_words.proofs.Places.{placed}
use Rattle.fws_pf_words.proofs.tags.Tags.place.Goals as goal

pub returns-clause-place : goal.returns-clause-place
returns-clause-place c =
    let names = c.args.self.now in
    let P : ℕ → Type 0 = λ n. n ≡ c.in_ok-place.place in
    let Q : ℕ → Type 0 = λ n. n ≡ place_of names c.args.name.now in
    IfOk-weaker _ P Q (λ n h. placed _ names _ _ n c.self.view_is c.in_ok-of.ensures (h ∙ c.in_ok-place.ensures.index)) c.number_of.ensures
