-- The sides of pairs that arrive for another host.
use Rattle.std.proofs.Common.{◌≡◌, ℕ, zero, suc, ◌+◌, ◌-◌, ◌^◌, ◌≤◌, true, ◌&&◌, not, List, [], ◌∷◌, ◌++◌, refl, sym, ◌∙◌, ap, subst, arith, length, get_or}
use Rattle.std.proofs.lemmas.Bool.{le-leb, and_from, or_left, not_from_false, ne_eqb}
use Rattle.std.proofs.Math.Bool.{and-true, and_assoc}
use Rattle.std.specs.Prelude.{nat_eq, nat_le, slice_set, slice_index}
use Rattle.fws_iv.specs.declared.iv.Iv.{Iv}
use Rattle.fws_iv.specs.Ivs.{has}
use Rattle.fws_box.specs.Sides.{IsWithin, sides_have, whole_sides}
use Rattle.fws_net.specs.declared.site.Site.{Site}
use Rattle.fws_net.specs.Points.{tops_of, packet_of}
use Rattle.fws_net.specs.Routes.{is_local}
use Rattle.fws_place.specs.Meaning.{point_of, rec_of}
use Rattle.fws_place.proofs.PairPoints.{point_back}

-- a test of the whole is a test of the fields before one and a test of the others
sides_have-append : (front rest : List (List Iv)) (before after : List ℕ) → length front ≡ length before
    → sides_have (front ++ rest) (before ++ after) ≡ (sides_have front before && sides_have rest after)
sides_have-append [] rest [] after e = refl
sides_have-append [] rest (x ∷ before) after e = absurd (omega arith)
sides_have-append (s ∷ front) rest [] after e = absurd (omega arith)
sides_have-append (s ∷ front) rest (x ∷ before) after e =
    ap (λ b. has s x && b) (sides_have-append front rest before after (omega arith)) ∙ sym (and_assoc (has s x) (sides_have front before) (sides_have rest after))

-- a point within the tops lies in the whole ranges
pub whole_have : (tops p : List ℕ) → IsWithin tops p → sides_have (whole_sides tops) p ≡ true
whole_have [] [] w = refl
whole_have [] (x ∷ p) w = absurd w
whole_have (top ∷ tops) [] w = absurd w
whole_have (top ∷ tops) (x ∷ p) w = and_from _ _ (or_left _ _ (and_from (nat_le 0 x) (nat_le x top) (le-leb 0 x (omega arith)) (le-leb x top w.0))) (whole_have tops p w.1)

pub within_split : (tops others p q : List ℕ) → length tops ≡ length p → IsWithin (tops ++ others) (p ++ q) → IsWithin tops p × IsWithin others q
within_split [] others [] q e w = (tt, w)
within_split [] others (x ∷ p) q e w = absurd (omega arith)
within_split (top ∷ tops) others [] q e w = absurd (omega arith)
within_split (top ∷ tops) others (x ∷ p) q e w = let both = within_split tops others p q (omega arith) w.1 in ((w.0, both.0), both.1)

-- a number is a member of the range from 1 on where it isn't 0
pub from_one : (x top : ℕ) → x ≤ top → has (record { lo = 1; hi = top } ∷ []) x ≡ not (nat_eq x 0)
from_one zero top le = refl
from_one (suc x) top le = or_left _ _ (and_from (nat_le 1 (suc x)) (nat_le (suc x) top) (le-leb 1 (suc x) (omega arith)) (le-leb (suc x) top le))
    ∙ sym (not_from_false (nat_eq (suc x) 0) (ne_eqb (suc x) 0 (λ e. omega arith)))

-- and of the whole range wherever it isn't past the top
in_range : (x top : ℕ) → x ≤ top → has (record { lo = 0; hi = top } ∷ []) x ≡ true
in_range x top le = or_left _ _ (and_from (nat_le 0 x) (nat_le x top) (le-leb 0 x (omega arith)) (le-leb x top le))

-- with other sides at two places
pub two_sides : (s r : List Iv) (tops others : List ℕ) (x y : ℕ) (p q : List ℕ) → length tops ≡ length p → IsWithin tops p → IsWithin others q
    → sides_have (s ∷ whole_sides tops ++ r ∷ whole_sides others) (x ∷ p ++ y ∷ q) ≡ (has s x && has r y)
two_sides s r tops others x y p q e w v =
    ap (λ b. has s x && b)
    (sides_have-append (whole_sides tops) (r ∷ whole_sides others) p (y ∷ q) (whole_length tops ∙ e)
    ∙ ap (λ b. b && (has r y && sides_have (whole_sides others) q)) (whole_have tops p w)
    ∙ ap (λ b. has r y && b) (whole_have others q v) ∙ and-true (has r y))
  where
    whole_length : (ts : List ℕ) → length (whole_sides ts) ≡ length ts
    whole_length [] = refl
    whole_length (t ∷ ts) = ap suc (whole_length ts)

-- the sides of pairs that arrive for another host
pub passing : (site : Site) (sides : List (List Iv)) (s r whole local : List Iv) → sides ≡ whole_sides (tops_of site) → s ≡ record { lo = 1; hi = length site.faces + 1 } ∷ []
    → whole ≡ record { lo = 0; hi = 2 ^ 32 - 1 } ∷ [] → ((v : ℕ) → has r v ≡ (has whole v && not (has local v))) → ((a : ℕ) → has local a ≡ is_local site a)
    → (p : List ℕ) → IsWithin (tops_of site) p
    → sides_have (slice_set (slice_set sides 0 s) 8 r) p ≡ (not (nat_eq (slice_index p 0) 0) && not (is_local site (slice_index p 8)))
passing site sides s r whole local wide one all minus own p w =
    let at : ℕ → ℕ = λ k. get_or p k 0 in
    let q : List ℕ = at 1 ∷ at 2 ∷ at 3 ∷ at 4 ∷ at 5 ∷ at 6 ∷ at 7 ∷ [] in
    let l : List ℕ = at 9 ∷ at 10 ∷ at 11 ∷ [] in
    let back : point_of (packet_of p) (rec_of p) ≡ p = point_back site p w in
    let middle : List ℕ = 255 ∷ (2 ^ 32 - 1) ∷ 65535 ∷ (2 ^ 32 - 1) ∷ 65535 ∷ 63 ∷ 255 ∷ [] in
    let others : List ℕ = 65535 ∷ (2 ^ 32 - 1) ∷ 65535 ∷ [] in
    let v : IsWithin (tops_of site) (at 0 ∷ q ++ at 8 ∷ l) = subst (λ k. IsWithin (tops_of site) k) (sym back) w in
    let parts = within_split middle ((2 ^ 32 - 1) ∷ others) q (at 8 ∷ l) refl v.1 in
    ap (λ ws. sides_have (slice_set (slice_set ws 0 s) 8 r) p) wide
    ∙ ap (λ k. sides_have (slice_set (slice_set (whole_sides (tops_of site)) 0 s) 8 r) k) (sym back)
    ∙ two_sides s r middle others (at 0) (at 8) q l refl parts.0 parts.1.1
    ∙ ap (λ t. has t (at 0) && has r (at 8)) one ∙ ap (λ b. b && has r (at 8)) (from_one (at 0) (length site.faces + 1) v.0)
    ∙ ap (λ b. not (nat_eq (at 0) 0) && b) (minus (at 8) ∙ ap (λ t. has t (at 8) && not (has local (at 8))) all
    ∙ ap (λ b. b && not (has local (at 8))) (in_range (at 8) (2 ^ 32 - 1) parts.1.0) ∙ ap not (own (at 8)))
