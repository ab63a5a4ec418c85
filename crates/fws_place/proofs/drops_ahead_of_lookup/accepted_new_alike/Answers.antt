use Rattle.std.proofs.Common.{◌≡◌, ℕ, Bool, List, sym, subst}
use Rattle.std.proofs.lemmas.Result.{IfOk-weaker}
use Rattle.fws_box.specs.Sides.{IsWithin}
use Rattle.fws_net.specs.Points.{tops_of}
use Rattle.fws_tree.specs.Plain.{Plain, value}
use Rattle.fws_place.specs.AheadOfLookup.{exchanged, IsAcceptedNewAlike}
use Rattle.fws_place.specs.Seen.{Tells}
use Rattle.fws_place.proofs.Dropping.{alike_new_told}
use Rattle.fws_place.proofs.drops_ahead_of_lookup.accepted_new_alike.Goals as goal

pub returns-clause-tells : goal.returns-clause-tells
returns-clause-tells c =
    let site = c.args.site.now in
    let tables = c.args.tables.now in
    let host = c.in_ok-host.host in
    let P : List ℕ × Plain Bool → Type 0 = λ t. (q : List ℕ) → IsWithin host.0 q → IsWithin host.0 (exchanged q) → value t.1 q ≡ value host.1 (exchanged q) in
    let Q : List ℕ × Plain Bool → Type 0 = λ t. Tells site (IsAcceptedNewAlike tables) t.1 in
    let same : tops_of site ≡ host.0 = sym c.in_ok-host.ensures.tops in
    IfOk-weaker c.exchanged.result P Q
    (λ t h. alike_new_told site tables host.1 t.1 c.in_ok-host.ensures.tells
    (λ q w v. h q (subst (λ ts. IsWithin ts q) same w) (subst (λ ts. IsWithin ts (exchanged q)) same v)))
    c.exchanged.ensures.value
