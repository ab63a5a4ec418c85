use Rattle.std.proofs.Common.{◌≡◌, ℕ, Bool, Some, List, sym, subst}
use Rattle.std.proofs.lemmas.Result.{IfOk-weaker}
use Rattle.fws_box.specs.Sides.{IsWithin}
use Rattle.fws_net.specs.declared.outcome.Outcome.{Outcome}
use Rattle.fws_net.specs.Points.{tops_of}
use Rattle.fws_tree.specs.Plain.{Plain, value}
use Rattle.fws_place.specs.Outgoing.{goes_out}
use Rattle.fws_place.proofs.Going.{by_ends}
use Rattle.fws_place.proofs.outgoing.outgoing.Goals as goal

pub returns-clause-value : goal.returns-clause-value
returns-clause-value c =
    let site = c.args.site.now in
    let fresh = c.args.tables.now.fresh in
    let ends = c.in_ok-ends.ends in
    let P : List ℕ × Plain Bool → Type 0 = λ t. (q : List ℕ) → IsWithin (tops_of site) q → (o : Outcome) × (value ends.1 q ≡ Some o) × (value t.1 q ≡ Some (goes_out site o q)) in
    let Q : List ℕ × Plain Bool → Type 0 = λ t. (q : List ℕ) → IsWithin (tops_of site) q → (o : Outcome) × (value fresh.1 q ≡ Some o) × (value t.1 q ≡ Some (goes_out site o q)) in
    IfOk-weaker c.going_out.result P Q
    (λ t h q w.
    by_ends site q (value fresh.1 q) (value ends.1 q) (value t.1 q) (c.in_ok-ends.ensures.value q (subst (λ (ts : List ℕ). IsWithin ts q) (sym c.requires.regular.fresh_tops) w)) (h q w))
    c.going_out.ensures.value
