use Rattle.std.proofs.Common.{◌≡◌, ℕ, Bool, List, sym, ◌∙◌, subst}
use Rattle.std.proofs.lemmas.Result.{IfOk-weaker}
use Rattle.std.specs.Prelude.{Some, false, if◌then◌else◌}
use Rattle.fws_box.specs.Sides.{IsWithin, sides_have}
use Rattle.fws_tree.specs.Plain.{Plain, value}
use Rattle.fws_place.specs.Clauses.{BreaksHost}
use Rattle.fws_place.specs.Seen.{Tells}
use Rattle.fws_place.proofs.HostPasses.{changed_told}
use Rattle.fws_place.proofs.passes_host.changed_host.Goals as goal

pub returns-clause-tells : goal.returns-clause-tells
returns-clause-tells c =
    let site = c.args.site.now in
    let tables = c.args.tables.now in
    let sides = c.in_ok-sides.sides in
    let t = c.in_ok-changed.changed in
    let P : List ℕ × Plain Bool → Type 0 = λ u. (q : List ℕ) → IsWithin t.0 q → value u.1 q ≡ (if sides_have sides q then value t.1 q else Some false) in
    let Q : List ℕ × Plain Bool → Type 0 = λ u. Tells site (λ p r. BreaksHost tables p) u.1 in
    IfOk-weaker c.restrict.result P Q
    (λ u h. changed_told site tables c.requires.regular t.1 u.1
    (λ q w. c.in_ok-changed.ensures.value q (subst (λ ts. IsWithin ts q) (sym c.requires.regular.fresh_tops) w))
    (λ q w. subst (λ b. value u.1 q ≡ (if b then value t.1 q else Some false)) (c.in_ok-sides.ensures q w)
    (h q (subst (λ ts. IsWithin ts q) (sym (c.in_ok-changed.ensures.tops ∙ c.requires.regular.fresh_tops)) w))))
    c.restrict.ensures.value
