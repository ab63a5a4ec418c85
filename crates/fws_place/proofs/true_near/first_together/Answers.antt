use Rattle.std.proofs.Common.{◌≡◌, ℕ, Bool, true, Some, List, subst}
use Rattle.std.proofs.lemmas.Result.{IfOk-weaker}
use Rattle.std.specs.Prelude.{◌↔◌}
use Rattle.fws_box.specs.Sides.{IsWithin}
use Rattle.fws_tree.specs.Plain.{Plain, value}
use Rattle.fws_place.specs.Apart.{IsFirstNear}
use Rattle.fws_place.proofs.NearPoints.{first_both, IsBoth, TellsNear}
use Rattle.fws_place.proofs.true_near.first_together.Goals as goal

pub returns-clause-value : goal.returns-clause-value
returns-clause-value c =
    let fields : ℕ = c.args.fields in
    let first = c.args.first.now in
    let second = c.args.second.now in
    let somewhere = c.in_ok-somewhere.somewhere in
    let near : TellsNear fields first.0 second.1 somewhere.1 = subst (λ (ts : List ℕ). TellsNear fields ts second.1 somewhere.1) c.requires c.in_ok-somewhere.ensures.value in
    let P : List ℕ × Plain Bool → Type 0 = λ t. IsBoth first.0 first.1 somewhere.1 t.1 in
    let Q : List ℕ × Plain Bool → Type 0 = λ t. (p : List ℕ) → IsWithin first.0 p → (value t.1 p ≡ Some true) ↔ IsFirstNear fields first.0 first.1 second.1 p in
    IfOk-weaker c.both.result P Q (λ t h. first_both fields first.0 first.1 second.1 somewhere.1 t.1 near h) c.both.ensures.value
