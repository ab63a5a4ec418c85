use Rattle.std.proofs.Common.{◌≡◌, ℕ, Bool, false, ◌&&◌, Some, List, [], ◌∷◌, ap, ◌∙◌, sym, subst}
use Rattle.std.proofs.lemmas.Result.{IfOk-weaker}
use Rattle.std.specs.Prelude.{if◌then◌else◌, slice_index}
use Rattle.fws_iv.specs.Ivs.{has}
use Rattle.fws_box.specs.Sides.{IsWithin, sides_have}
use Rattle.fws_net.specs.Points.{tops_of}
use Rattle.fws_tree.specs.Plain.{Plain, value}
use Rattle.fws_ios_put.proofs.fixing.framed_part.Goals as goal

pub returns-clause-value : goal.returns-clause-value
returns-clause-value c =
    let site = c.args.site.now in
    let entry = c.args.entry in
    let flags = c.args.flags in
    let tree = c.args.tree.now in
    let sides = c.in_ok-sides.sides in
    let P : List ℕ × Plain Bool → Type 0 = λ t. (q : List ℕ) → IsWithin tree.0 q → value t.1 q ≡ (if sides_have sides q then value tree.1 q else Some false) in
    let Q : List ℕ × Plain Bool → Type 0
    = λ t. (q : List ℕ) → IsWithin (tops_of site) q
    → value t.1 q ≡ (if has (record { lo = entry; hi = entry } ∷ []) (slice_index q 0) && has (record { lo = flags; hi = flags } ∷ []) (slice_index q 6) then value tree.1 q else Some false) in
    IfOk-weaker c.restrict.result P Q
    (λ t h q w. h q (subst (λ (ts : List ℕ). IsWithin ts q) (sym c.requires.tops) w) ∙ ap (λ (b : Bool). if b then value tree.1 q else Some false) (c.in_ok-sides.ensures q w))
    c.restrict.ensures.value
