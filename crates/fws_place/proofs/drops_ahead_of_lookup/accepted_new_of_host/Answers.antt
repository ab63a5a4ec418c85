use Rattle.std.proofs.Common.{◌≡◌, ℕ, Bool, true, false, Some, List}
use Rattle.std.proofs.lemmas.Result.{IfOk-weaker}
use Rattle.std.specs.Prelude.{if◌then◌else◌, nat_eq, slice_index}
use Rattle.fws_box.specs.Sides.{IsWithin}
use Rattle.fws_net.specs.Points.{tops_of}
use Rattle.fws_tree.specs.Plain.{Plain, value}
use Rattle.fws_place.specs.AheadOfLookup.{IsAcceptedNew}
use Rattle.fws_place.specs.Meaning.{point_of}
use Rattle.fws_place.specs.Pairs.{is_host}
use Rattle.fws_place.specs.Seen.{Tells}
use Rattle.fws_place.proofs.Dropping.{among_told}
use Rattle.fws_place.proofs.drops_ahead_of_lookup.accepted_new_of_host.Goals as goal

pub returns-clause-tells : goal.returns-clause-tells
returns-clause-tells c =
    let site = c.args.site.now in
    let tables = c.args.tables.now in
    let all = c.in_ok-all.all in
    let P : List ℕ × Plain Bool → Type 0 = λ t. (q : List ℕ) → IsWithin (tops_of site) q → value t.1 q ≡ (if nat_eq (slice_index q 0) 0 then value all.1 q else Some false) in
    let Q : List ℕ × Plain Bool → Type 0 = λ t. Tells site (λ p r. (is_host p ≡ true) × IsAcceptedNew tables p) t.1 in
    IfOk-weaker c.of_host.result P Q
    (λ t h. among_told site (λ p r. IsAcceptedNew tables p) (λ p r. is_host p) all.1 t.1 c.in_ok-all.ensures.tells (λ p r w. h (point_of p r) w))
    c.of_host.ensures.value
