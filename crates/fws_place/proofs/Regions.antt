-- The sides of the host's pairs, of those that are delivered, and of what comes from the inside.
use Rattle.std.proofs.Common.{◌≡◌, ℕ, ◌+◌, ◌-◌, ◌^◌, ◌&&◌, not, List, [], ◌∷◌, ◌++◌, refl, sym, ◌∙◌, ap, subst, arith, length, get_or}
use Rattle.std.proofs.lemmas.Bool.Decides.{nat_tests}
use Rattle.std.proofs.Math.Bool.{and-true}
use Rattle.std.specs.Prelude.{nat_eq, slice_set, slice_index}
use Rattle.fws_iv.specs.declared.iv.Iv.{Iv}
use Rattle.fws_iv.specs.Ivs.{has}
use Rattle.fws_box.specs.Sides.{IsWithin, sides_have, whole_sides}
use Rattle.fws_net.specs.declared.site.Site.{Site}
use Rattle.fws_net.specs.Points.{tops_of, packet_of}
use Rattle.fws_net.specs.Routes.{is_local}
use Rattle.fws_place.specs.Meaning.{point_of, rec_of}
use Rattle.fws_place.specs.Rewritings.{is_inside, side_of}
use Rattle.fws_place.proofs.Passing.{from_one, two_sides, whole_have, within_split}
use Rattle.fws_place.proofs.PairPoints.{point_back}

-- 0 alone is a member
zero_alone : (x : ℕ) → has (record { lo = 0; hi = 0 } ∷ []) x ≡ nat_eq x 0
zero_alone x = grind (arith, nat_tests)

-- the tops of the fields between the entry and the destination of the connection, and behind that
abbrev middle : List ℕ
middle = 255 ∷ (2 ^ 32 - 1) ∷ 65535 ∷ (2 ^ 32 - 1) ∷ 65535 ∷ 63 ∷ 255 ∷ []

abbrev others : List ℕ
others = 65535 ∷ (2 ^ 32 - 1) ∷ 65535 ∷ []

-- with another side for the entry
pub first_side : (site : Site) (sides : List (List Iv)) (s : List Iv) → sides ≡ whole_sides (tops_of site) → (p : List ℕ) → IsWithin (tops_of site) p
    → sides_have (slice_set sides 0 s) p ≡ has s (slice_index p 0)
first_side site sides s wide p w =
    let at : ℕ → ℕ = λ k. get_or p k 0 in
    let q : List ℕ = at 1 ∷ at 2 ∷ at 3 ∷ at 4 ∷ at 5 ∷ at 6 ∷ at 7 ∷ at 8 ∷ at 9 ∷ at 10 ∷ at 11 ∷ [] in
    let back : point_of (packet_of p) (rec_of p) ≡ p = point_back site p w in
    let v : IsWithin (tops_of site) (at 0 ∷ q) = subst (λ k. IsWithin (tops_of site) k) (sym back) w in
    ap (λ ws. sides_have (slice_set ws 0 s) p) wide
    ∙ ap (λ k. sides_have (slice_set (whole_sides (tops_of site)) 0 s) k) (sym back)
    ∙ ap (λ b. has s (at 0) && b) (whole_have (middle ++ (2 ^ 32 - 1) ∷ others) q v.1) ∙ and-true (has s (at 0))

-- the sides of the host's pairs
pub hosting : (site : Site) (sides : List (List Iv)) (s : List Iv) → sides ≡ whole_sides (tops_of site) → s ≡ record { lo = 0; hi = 0 } ∷ []
    → (p : List ℕ) → IsWithin (tops_of site) p → sides_have (slice_set sides 0 s) p ≡ nat_eq (slice_index p 0) 0
hosting site sides s wide none p w =
    first_side site sides s wide p w ∙ ap (λ t. has t (slice_index p 0)) none ∙ zero_alone (slice_index p 0)

-- the sides of pairs that are delivered
pub staying : (site : Site) (sides : List (List Iv)) (s r : List Iv) → sides ≡ whole_sides (tops_of site) → s ≡ record { lo = 1; hi = length site.faces + 1 } ∷ []
    → ((a : ℕ) → has r a ≡ is_local site a) → (p : List ℕ) → IsWithin (tops_of site) p
    → sides_have (slice_set (slice_set sides 0 s) 8 r) p ≡ (not (nat_eq (slice_index p 0) 0) && is_local site (slice_index p 8))
staying site sides s r wide one own p w =
    let at : ℕ → ℕ = λ k. get_or p k 0 in
    let q : List ℕ = at 1 ∷ at 2 ∷ at 3 ∷ at 4 ∷ at 5 ∷ at 6 ∷ at 7 ∷ [] in
    let l : List ℕ = at 9 ∷ at 10 ∷ at 11 ∷ [] in
    let back : point_of (packet_of p) (rec_of p) ≡ p = point_back site p w in
    let v : IsWithin (tops_of site) (at 0 ∷ q ++ at 8 ∷ l) = subst (λ k. IsWithin (tops_of site) k) (sym back) w in
    let parts = within_split middle ((2 ^ 32 - 1) ∷ others) q (at 8 ∷ l) refl v.1 in
    ap (λ ws. sides_have (slice_set (slice_set ws 0 s) 8 r) p) wide
    ∙ ap (λ k. sides_have (slice_set (slice_set (whole_sides (tops_of site)) 0 s) 8 r) k) (sym back)
    ∙ two_sides s r middle others (at 0) (at 8) q l refl parts.0 parts.1.1
    ∙ ap (λ t. has t (at 0) && has r (at 8)) one ∙ ap (λ b. b && has r (at 8)) (from_one (at 0) (length site.faces + 1) v.0)
    ∙ ap (λ b. not (nat_eq (at 0) 0) && b) (own (at 8))

-- the sides of what comes from the inside
pub from_inside : (site : Site) (sides : List (List Iv)) (s : List Iv) → sides ≡ whole_sides (tops_of site) → ((e : ℕ) → has s e ≡ is_inside (side_of site e))
    → (p : List ℕ) → IsWithin (tops_of site) p → sides_have (slice_set sides 0 s) p ≡ is_inside (side_of site (slice_index p 0))
from_inside site sides s wide entries p w = first_side site sides s wide p w ∙ entries (slice_index p 0)
