use Rattle.std.proofs.Common.{◌≡◌, ◌<◌, ℕ, Some, List, sym, ◌∙◌, ap, subst, length, slice_set}
use Rattle.std.proofs.lemmas.Result.{IfOk-weaker}
use Rattle.std.specs.Prelude.{slice_index, if◌then◌else◌}
use Rattle.fws_iv.specs.declared.iv.Iv.{Iv}
use Rattle.fws_iv.specs.Ivs.{has}
use Rattle.fws_box.specs.Fields.{place_of}
use Rattle.fws_box.specs.Sides.{IsWithin, sides_have, whole_sides}
use Rattle.fws_tree.specs.Plain.{Plain, value}
use Rattle.fws_truth.proofs.FieldSides.{one_side}
use Rattle.fws_truth.proofs.keeping.kept_in.Goals as goal

pub returns-clause-value : goal.returns-clause-value
returns-clause-value g c =
    let tree = c.args.tree.now in
    let f : ℕ = place_of c.args.field in
    let set : List Iv = c.args.set in
    let off = c.args.off in
    let sides : List (List Iv) = slice_set c.in_ok-sides.sides c.place.result set in
    let P : List ℕ × Plain g.row.L.Denot → Type 0 = λ t. (q : List ℕ) → IsWithin tree.0 q → value t.1 q ≡ (if sides_have sides q then value tree.1 q else Some off) in
    let Q : List ℕ × Plain g.row.L.Denot → Type 0 = λ t. (q : List ℕ) → IsWithin tree.0 q → value t.1 q ≡ (if has set (slice_index q f) then value tree.1 q else Some off) in
    let low : f < length tree.0 = subst (λ (n : ℕ). f < n) (sym c.tops.ensures.twelve) c.place.ensures.low in
    IfOk-weaker c.restrict.result P Q
    (λ t h q w.
    h q w
    ∙ ap (λ b. if b then value tree.1 q else Some off)
    (ap (λ (n : ℕ). sides_have (slice_set c.in_ok-sides.sides n set) q) c.place.ensures.place
    ∙ ap (λ (s : List (List Iv)). sides_have (slice_set s f set) q) (c.in_ok-sides.ensures ∙ ap whole_sides c.tops.ensures.value) ∙ one_side tree.0 q f set w low))
    c.restrict.ensures.value
