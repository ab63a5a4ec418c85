use Rattle.std.proofs.Common.{◌≡◌, ℕ, Bool, ◌&&◌, ◌||◌, not, Some, List, sym, subst}
use Rattle.std.proofs.lemmas.Result.{IfOk-weaker}
use Rattle.fws_box.specs.Sides.{IsWithin}
use Rattle.fws_tree.specs.Plain.{Plain, value}
use Rattle.fws_place.specs.AheadOfLookup.{IsAcceptedNewAlike, IsDroppedOfAlike}
use Rattle.fws_place.specs.Seen.{IsAcceptedAlike, Tells}
use Rattle.fws_place.proofs.Dropping.{dropped_told}
use Rattle.fws_place.proofs.drops_ahead_of_lookup.dropped_of_alike.Goals as goal

pub returns-clause-tells : goal.returns-clause-tells
returns-clause-tells c =
    let site = c.args.site.now in
    let tables = c.args.tables.now in
    let a = c.args.accepted.now in
    let b = c.args.behind.now in
    let d = c.in_ok-alike.alike in
    let P : List ℕ × Plain Bool → Type 0 = λ t. (q : List ℕ) → IsWithin a.0 q → (x : Bool) × (y : Bool) × (z : Bool) × (value a.1 q ≡ Some x) × (value b.1 q ≡ Some y) × (value d.1 q ≡ Some z)
    × (value t.1 q ≡ Some (not x && (y || z))) in
    let Q : List ℕ × Plain Bool → Type 0 = λ t. Tells site (IsDroppedOfAlike site tables) t.1 in
    IfOk-weaker c.dropped_with_either.result P Q
    (λ t h. dropped_told site tables (IsAcceptedAlike site tables) (IsAcceptedNewAlike tables) a.1 b.1 d.1 t.1 c.requires.accepted c.requires.behind c.in_ok-alike.ensures.tells
    (λ q w. h q (subst (λ ts. IsWithin ts q) (sym c.requires.accepted_tops) w)))
    c.dropped_with_either.ensures.value
