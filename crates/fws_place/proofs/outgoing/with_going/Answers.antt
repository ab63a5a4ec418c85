use Rattle.std.proofs.Common.{◌≡◌, ℕ, Bool, true, ◌||◌, Some, List, sym, subst}
use Rattle.std.proofs.lemmas.Result.{IfOk-weaker}
use Rattle.std.specs.Prelude.{◌↔◌}
use Rattle.fws_box.specs.Sides.{IsWithin}
use Rattle.fws_net.specs.Points.{tops_of}
use Rattle.fws_tree.specs.Plain.{Plain, value}
use Rattle.fws_place.specs.Outgoing.{goes_out}
use Rattle.fws_place.proofs.Going.{with_such}
use Rattle.fws_place.proofs.outgoing.with_going.Goals as goal

pub returns-clause-value : goal.returns-clause-value
returns-clause-value c =
    let site = c.args.site.now in
    let all = c.args.all.now in
    let outcomes = c.args.outcomes.now in
    let o = c.args.outcome.now in
    let such = c.in_ok-such.such in
    let P : List ℕ × Plain Bool → Type 0 = λ t. (q : List ℕ) → IsWithin all.0 q → (a : Bool) × (b : Bool) × (value all.1 q ≡ Some a) × (value such.1 q ≡ Some b) × (value t.1 q ≡ Some (a || b)) in
    let Q : List ℕ × Plain Bool → Type 0
    = λ t. (q : List ℕ) → IsWithin (tops_of site) q → (a : Bool) × (b : Bool) × (value all.1 q ≡ Some a) × ((b ≡ true) ↔ ((value outcomes.1 q ≡ Some o) × (goes_out site o q ≡ true)))
    × (value t.1 q ≡ Some (a || b)) in
    IfOk-weaker c.either.result P Q
    (λ t h q w. with_such site o q (value outcomes.1 q) (value all.1 q) (value such.1 q) (value t.1 q) (c.in_ok-such.ensures.value q w)
    (h q (subst (λ (ts : List ℕ). IsWithin ts q) (sym c.requires.all) w)))
    c.either.ensures.value
