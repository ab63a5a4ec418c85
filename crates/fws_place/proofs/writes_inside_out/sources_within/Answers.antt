use Rattle.std.proofs.Common.{◌≡◌, ℕ, Some, List, ◌∙◌, sym, subst}
use Rattle.std.proofs.lemmas.Result.{IfOk-weaker}
use Rattle.std.specs.Prelude.{if◌then◌else◌}
use Rattle.fws_box.specs.Sides.{IsWithin, sides_have}
use Rattle.fws_net.specs.declared.outcome.Outcome.{Outcome}
use Rattle.fws_net.specs.declared.outcome.Outcome.TheVariants.{Drop}
use Rattle.fws_net.specs.Points.{tops_of}
use Rattle.fws_tree.specs.Plain.{Plain, value}
use Rattle.fws_place.specs.Rewritings.{is_inside, side_of}
use Rattle.fws_place.proofs.Crossings.{sources_within}
use Rattle.fws_place.specs.Delivered.{AreSources}
use Rattle.fws_place.proofs.writes_inside_out.sources_within.Goals as goal

pub returns-clause-value : goal.returns-clause-value
returns-clause-value c =
    let site = c.args.site.now in
    let tables = c.args.tables.now in
    let inside = c.args.inside.now in
    let all = c.in_ok-sources.sources in
    let whole : all.0 ≡ tops_of site = c.in_ok-sources.ensures.tops ∙ c.requires.regular.fresh_tops in
    let P : List ℕ × Plain Outcome → Type 0 = λ t. (q : List ℕ) → IsWithin all.0 q → value t.1 q ≡ (if sides_have inside q then value all.1 q else Some Drop) in
    let Q : List ℕ × Plain Outcome → Type 0 = λ t. AreSources site tables (λ entry. is_inside (side_of site entry)) t.1 in
    IfOk-weaker c.restrict.result P Q
    (λ t h. sources_within site tables all.1 t.1 (λ q w. c.in_ok-sources.ensures.value q (subst (λ ts. IsWithin ts q) (sym c.requires.regular.fresh_tops) w))
    (λ q w. subst (λ b. value t.1 q ≡ (if b then value all.1 q else Some Drop)) (c.requires.inside q w) (h q (subst (λ ts. IsWithin ts q) (sym whole) w))))
    c.restrict.ensures.value
