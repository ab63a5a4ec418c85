use Rattle.std.proofs.Common.{◌≡◌, ℕ, Bool, Some, List, sym, subst}
use Rattle.std.proofs.lemmas.Result.{IfOk-weaker}
use Rattle.fws_box.specs.Sides.{IsWithin}
use Rattle.fws_net.specs.declared.outcome.Outcome.{Outcome}
use Rattle.fws_tree.specs.Plain.{Plain, value}
use Rattle.fws_place.specs.AheadOfLookup.{IsAcceptedNew}
use Rattle.fws_place.specs.Rewritings.{is_accepted}
use Rattle.fws_place.specs.Seen.{Tells}
use Rattle.fws_place.proofs.Dropping.{new_told}
use Rattle.fws_place.proofs.drops_ahead_of_lookup.accepted_new.Goals as goal

pub returns-clause-tells : goal.returns-clause-tells
returns-clause-tells c =
    let site = c.args.site.now in
    let tables = c.args.tables.now in
    let P : List ℕ × Plain Bool → Type 0 = λ t. (q : List ℕ) → IsWithin tables.fresh.0 q → (o : Outcome) × (value tables.fresh.1 q ≡ Some o) × (value t.1 q ≡ Some (is_accepted o)) in
    let Q : List ℕ × Plain Bool → Type 0 = λ t. Tells site (λ p r. IsAcceptedNew tables p) t.1 in
    IfOk-weaker c.relabel.result P Q (λ t h. new_told site tables t.1 c.requires (λ q w. h q (subst (λ ts. IsWithin ts q) (sym c.requires.fresh_tops) w))) c.relabel.ensures.value
