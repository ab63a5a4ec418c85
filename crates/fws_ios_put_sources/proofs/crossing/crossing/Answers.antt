use Rattle.std.proofs.Common.{◌≡◌, ℕ, Some, List, sym, ◌∙◌, ap, subst}
use Rattle.std.proofs.lemmas.Result.{IfOk-weaker}
use Rattle.std.specs.Prelude.{if◌then◌else◌}
use Rattle.fws_box.specs.Sides.{IsWithin, sides_have}
use Rattle.fws_ios_put_sources.specs.Crossing.{IsCrossing}
use Rattle.fws_net.specs.declared.outcome.Outcome.{Outcome}
use Rattle.fws_net.specs.declared.outcome.Outcome.TheVariants.{Drop}
use Rattle.fws_net.specs.Points.{tops_of}
use Rattle.fws_tree.specs.Plain.{Plain, value}
use Rattle.fws_ios_put_sources.proofs.crossing.crossing.Goals as goal

pub returns-clause-tops : goal.returns-clause-tops
returns-clause-tops c =
    let P : List ℕ × Plain Outcome → Type 0 = λ t. t.0 ≡ c.args.tables.now.fresh.0 in
    let Q : List ℕ × Plain Outcome → Type 0 = λ t. t.0 ≡ tops_of c.args.site.now in
    IfOk-weaker c.restrict.result P Q (λ t e. e ∙ c.requires.tops) c.restrict.ensures.tops

pub returns-clause-value : goal.returns-clause-value
returns-clause-value c =
    let site = c.args.site.now in
    let tables = c.args.tables.now in
    let fresh : List ℕ × Plain Outcome = tables.fresh in
    let sides = c.in_ok-sides.sides in
    let P : List ℕ × Plain Outcome → Type 0
    = λ t. (x : List ℕ) → IsWithin fresh.0 x → value t.1 x ≡ (if sides_have sides x then value fresh.1 x else Some Drop) in
    let Q : List ℕ × Plain Outcome → Type 0 = λ t. IsCrossing site tables t.1 in
    IfOk-weaker c.restrict.result P Q
    (λ t h x w. h x (subst (λ ts. IsWithin ts x) (sym c.requires.tops) w) ∙ ap (λ b. if b then value fresh.1 x else Some Drop) (c.in_ok-sides.ensures x w))
    c.restrict.ensures.value
