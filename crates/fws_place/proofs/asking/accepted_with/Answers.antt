use Rattle.std.proofs.Common.{◌≡◌, ℕ, Bool, Some, List, sym, subst}
use Rattle.std.proofs.lemmas.Result.{IfOk-weaker}
use Rattle.fws_box.specs.Sides.{IsWithin}
use Rattle.fws_net.specs.declared.outcome.Outcome.{Outcome}
use Rattle.fws_tree.specs.Plain.{Plain, value}
use Rattle.fws_place.specs.Asked.{passes}
use Rattle.fws_place.specs.Clauses.{IsAcceptedWith}
use Rattle.fws_place.specs.Rewritings.{is_accepted_with}
use Rattle.fws_place.specs.Seen.{Tells}
use Rattle.fws_place.proofs.NewPackets.{new_told}
use Rattle.fws_place.proofs.asking.accepted_with.Goals as goal

pub returns-clause-tells : goal.returns-clause-tells
returns-clause-tells c =
    let site = c.args.site.now in
    let tables = c.args.tables.now in
    let asked = c.args.asked in
    let P : List ℕ × Plain Bool → Type 0 = λ t. (q : List ℕ) → IsWithin tables.fresh.0 q → (o : Outcome) × (value tables.fresh.1 q ≡ Some o) × (value t.1 q ≡ Some (is_accepted_with (passes asked) o)) in
    let Q : List ℕ × Plain Bool → Type 0 = λ t. Tells site (λ p r. IsAcceptedWith tables (passes asked) p) t.1 in
    IfOk-weaker c.relabel.result P Q
    (λ t h. new_told site tables c.requires (passes asked) t.1 (λ q w. h q (subst (λ ts. IsWithin ts q) (sym c.requires.fresh_tops) w)))
    c.relabel.ensures.value
