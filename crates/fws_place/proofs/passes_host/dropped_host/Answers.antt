use Rattle.std.proofs.Common.{◌≡◌, ℕ, Bool, List, sym, subst}
use Rattle.std.proofs.lemmas.Result.{IfOk-weaker}
use Rattle.std.specs.Prelude.{Some, false, if◌then◌else◌}
use Rattle.fws_box.specs.Sides.{IsWithin, sides_have}
use Rattle.fws_tree.specs.Plain.{Plain, value}
use Rattle.fws_place.specs.Clauses.{BreaksHostEstablished}
use Rattle.fws_place.specs.Seen.{Tells}
use Rattle.fws_place.proofs.HostPasses.{host_dropped_told}
use Rattle.fws_place.proofs.passes_host.dropped_host.Goals as goal

pub returns-clause-tells : goal.returns-clause-tells
returns-clause-tells c =
    let site = c.args.site.now in
    let tables = c.args.tables.now in
    let sides = c.in_ok-sides.sides in
    let t = c.in_ok-dropped.dropped in
    let P : List ℕ × Plain Bool → Type 0 = λ u. (q : List ℕ) → IsWithin t.0 q → value u.1 q ≡ (if sides_have sides q then value t.1 q else Some false) in
    let Q : List ℕ × Plain Bool → Type 0 = λ u. Tells site (BreaksHostEstablished site tables) u.1 in
    IfOk-weaker c.restrict.result P Q
    (λ u h. host_dropped_told site tables t.1 u.1 c.in_ok-dropped.ensures.tells
    (λ q w. subst (λ b. value u.1 q ≡ (if b then value t.1 q else Some false)) (c.in_ok-sides.ensures q w)
    (h q (subst (λ ts. IsWithin ts q) (sym c.in_ok-dropped.ensures.tops) w))))
    c.restrict.ensures.value
