use Rattle.std.proofs.Common.{◌≡◌, ℕ, Bool, true, false, Some, List, sym, ◌∙◌, ap, subst}
use Rattle.std.proofs.lemmas.Result.{IfOk-weaker}
use Rattle.std.specs.Prelude.{◌↔◌, slice_index, if◌then◌else◌}
use Rattle.fws_iv.specs.declared.iv.Iv.{Iv}
use Rattle.fws_iv.specs.Ivs.{has}
use Rattle.fws_box.specs.Sides.{IsWithin}
use Rattle.fws_tree.specs.Plain.{Plain, value}
use Rattle.fws_place.proofs.Going.{coming_at}
use Rattle.fws_place.proofs.outgoing.coming_with.Goals as goal

pub returns-clause-value : goal.returns-clause-value
returns-clause-value c =
    let outcomes = c.args.outcomes.now in
    let o = c.args.outcome.now in
    let entries : List Iv = c.args.entries.now in
    let copied : List Iv = c.in_ok-copy.field-0 in
    let such = c.in_ok-such.such in
    let P : List ℕ × Plain Bool → Type 0 = λ t. (q : List ℕ) → IsWithin such.0 q → value t.1 q ≡ (if has copied (slice_index q 0) then value such.1 q else Some false) in
    let Q : List ℕ × Plain Bool → Type 0
    = λ t. (q : List ℕ) → IsWithin outcomes.0 q → (b : Bool) × ((b ≡ true) ↔ (value outcomes.1 q ≡ Some o)) × (value t.1 q ≡ (if has entries (slice_index q 0) then Some b else Some false)) in
    IfOk-weaker c.kept_in.result P Q
    (λ t h q w.
    let here = c.in_ok-such.ensures.value q w in
    coming_at entries (slice_index q 0) o (value outcomes.1 q) (value such.1 q) (value t.1 q) here.0 here.1 here.2
    (h q (subst (λ (ts : List ℕ). IsWithin ts q) (sym c.in_ok-such.ensures.tops) w) ∙ ap (λ (s : List Iv). if has s (slice_index q 0) then value such.1 q else Some false) c.in_ok-copy.ensures))
    c.kept_in.ensures.value
