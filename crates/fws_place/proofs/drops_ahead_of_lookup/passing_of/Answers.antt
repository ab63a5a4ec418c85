use Rattle.std.proofs.Common.{◌≡◌, ℕ, Bool, true, false, Some, List, sym, ◌∙◌, ap, subst}
use Rattle.std.proofs.lemmas.Result.{IfOk-weaker}
use Rattle.std.specs.Prelude.{if◌then◌else◌}
use Rattle.fws_box.specs.Sides.{IsWithin, sides_have}
use Rattle.fws_tree.specs.Plain.{Plain, value}
use Rattle.fws_place.specs.AheadOfLookup.{passes}
use Rattle.fws_place.specs.Clauses.{BreaksAheadOfLookup}
use Rattle.fws_place.specs.Meaning.{point_of}
use Rattle.fws_place.specs.Seen.{Tells}
use Rattle.fws_place.proofs.Dropping.{passing_told}
use Rattle.fws_place.proofs.drops_ahead_of_lookup.passing_of.Goals as goal

pub returns-clause-tells : goal.returns-clause-tells
returns-clause-tells c =
    let site = c.args.site.now in
    let tables = c.args._tables.now in
    let seen = c.args.seen.now in
    let sides = c.in_ok-sides.sides in
    let P : List ℕ × Plain Bool → Type 0 = λ t. (q : List ℕ) → IsWithin seen.0 q → value t.1 q ≡ (if sides_have sides q then value seen.1 q else Some false) in
    let Q : List ℕ × Plain Bool → Type 0 = λ t. Tells site (λ p r. (passes site p r ≡ true) × BreaksAheadOfLookup site tables p r) t.1 in
    IfOk-weaker c.restrict.result P Q
    (λ t h. passing_told site tables c.requires.regular c.requires.forwarding seen.1 t.1 c.requires.seen
    (λ p r w. h (point_of p r) (subst (λ ts. IsWithin ts (point_of p r)) (sym c.requires.tops) w)
    ∙ ap (λ b. if b then value seen.1 (point_of p r) else Some false) (c.in_ok-sides.ensures (point_of p r) w)))
    c.restrict.ensures.value
