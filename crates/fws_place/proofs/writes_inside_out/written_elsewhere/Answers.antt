use Rattle.std.proofs.Common.{◌≡◌, ℕ, Bool, List, sym, subst}
use Rattle.std.proofs.lemmas.Result.{IfOk-weaker}
use Rattle.std.specs.Prelude.{Some, false, if◌then◌else◌}
use Rattle.fws_box.specs.Sides.{IsWithin, sides_have}
use Rattle.fws_tree.specs.Plain.{Plain, value}
use Rattle.fws_place.specs.Crossing.{IsWrittenElsewhere}
use Rattle.fws_place.specs.Seen.{Tells}
use Rattle.fws_place.proofs.Crossings.{elsewhere_told}
use Rattle.fws_place.proofs.writes_inside_out.written_elsewhere.Goals as goal

pub returns-clause-tells : goal.returns-clause-tells
returns-clause-tells c =
    let site = c.args.site.now in
    let tables = c.args.tables.now in
    let sides = c.args.inside.now in
    let t = c.in_ok-written.written in
    let P : List ℕ × Plain Bool → Type 0 = λ u. (q : List ℕ) → IsWithin t.0 q → value u.1 q ≡ (if sides_have sides q then Some false else value t.1 q) in
    let Q : List ℕ × Plain Bool → Type 0 = λ u. Tells site (λ p r. IsWrittenElsewhere site tables p) u.1 in
    IfOk-weaker c.paint.result P Q
    (λ u h. elsewhere_told site tables t.1 u.1 c.in_ok-written.ensures.tells
    (λ q w. subst (λ b. value u.1 q ≡ (if b then Some false else value t.1 q)) (c.requires.inside q w)
    (h q (subst (λ ts. IsWithin ts q) (sym c.in_ok-written.ensures.tops) w))))
    c.paint.ensures.value
