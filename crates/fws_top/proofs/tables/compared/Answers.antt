use Rattle.std.proofs.Common.{◌≡◌, ℕ, List}
use Rattle.std.proofs.lemmas.Result.{IfOk-weaker}
use Rattle.fws_dead.specs.ComparisonText.{comparison_text}
use Rattle.fws_top.specs.Tables.{IsCompared}
use Rattle.fws_top.proofs.tables.compared.Goals as goal

pub same-requires-clause-a : goal.same-requires-clause-a
same-requires-clause-a c =
    let means = c.requires.regular in
    c.in_ok-one.ensures.regular means.0 means.1 means.2

pub same-requires-clause-b : goal.same-requires-clause-b
same-requires-clause-b c =
    let means = c.requires.other_regular in
    c.in_ok-two.ensures.regular means.0 means.1 means.2

pub returns : goal.returns
returns c = λ walk second does other_does.
    let one = c.in_ok-one.ensures.walked walk does in
    let two = c.in_ok-two.ensures.walked second other_does in
    let P : List ℕ → Type 0 = λ text. text ≡ comparison_text c.args.site.now c.in_ok-comparison.comparison in
    IfOk-weaker c.put_comparison.result P (IsCompared c.args.site.now walk second) (λ text spelled. record {
      comparison = c.in_ok-comparison.comparison;
      compared = c.in_ok-comparison.ensures.walked walk second one.fresh_walked one.est_walked two.fresh_walked two.est_walked;
      spelled = spelled;
    }) c.put_comparison.ensures
