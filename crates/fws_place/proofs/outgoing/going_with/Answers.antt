use Rattle.std.proofs.Common.{◌≡◌, ℕ, Bool, true, false, Some, List, refl, sym, ◌∙◌, subst}
use Rattle.std.proofs.lemmas.Result.{IfOk-weaker}
use Rattle.std.specs.Prelude.{◌↔◌, slice_index, if◌then◌else◌}
use Rattle.fws_iv.specs.declared.iv.Iv.{Iv}
use Rattle.fws_iv.specs.Ivs.{has}
use Rattle.fws_box.specs.Sides.{IsWithin}
use Rattle.fws_net.specs.Points.{tops_of}
use Rattle.fws_tree.specs.Plain.{Plain, value}
use Rattle.fws_place.specs.Outgoing.{goes_out}
use Rattle.fws_place.proofs.Going.{with_one}
use Rattle.fws_place.proofs.outgoing.going_with.Goals as goal

pub returns-clause-value : goal.returns-clause-value
returns-clause-value c =
    let site = c.args.site.now in
    let tops : List ℕ = tops_of site in
    let outcomes = c.args.outcomes.now in
    let o = c.args.outcome.now in
    let inside : List Iv = c.args.inside.now in
    let coming = c.in_ok-coming.coming in
    let set : List Iv = c.in_ok-set.set in
    let coming_tops : coming.0 ≡ tops = c.in_ok-coming.ensures.tops ∙ c.requires.tops in
    let P : List ℕ × Plain Bool → Type 0 = λ t. (q : List ℕ) → IsWithin coming.0 q → value t.1 q ≡ (if has set (slice_index q 2) then value coming.1 q else Some false) in
    let Q : List ℕ × Plain Bool → Type 0
    = λ t. (q : List ℕ) → IsWithin tops q → (b : Bool) × (value t.1 q ≡ Some b) × ((b ≡ true) ↔ ((value outcomes.1 q ≡ Some o) × (goes_out site o q ≡ true))) in
    IfOk-weaker c.kept_in.result P Q
    (λ t h q w.
    let here = c.in_ok-coming.ensures.value q (subst (λ (ts : List ℕ). IsWithin ts q) (sym c.requires.tops) w) in
    with_one site inside set o q (value outcomes.1 q) (Some here.0) (value coming.1 q) (value t.1 q) here.0 c.requires.inside w c.in_ok-set.ensures refl here.1 here.2
    (h q (subst (λ (ts : List ℕ). IsWithin ts q) (sym coming_tops) w)))
    c.kept_in.ensures.value
