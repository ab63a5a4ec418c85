-- The sides of pairs that arrive and make no out pass.
use Rattle.std.proofs.Common.{◌≡◌, ℕ, zero, suc, ◌+◌, ◌-◌, ◌^◌, ◌<◌, ◌≤◌, true, ◌&&◌, ◌||◌, not, nat_eq, nat_le, List, [], ◌∷◌, length, slice_index, slice_set, refl, sym, ◌∙◌, ap, arith}
use Rattle.std.proofs.lemmas.Bool.{false≢true, le-leb, and_from, and_parts, or_left, not_from_false, ne_eqb}
use Rattle.std.proofs.Math.Bool.{and-true}
use Rattle.fws_iv.specs.declared.iv.Iv.{Iv}
use Rattle.fws_iv.specs.Ivs.{has}
use Rattle.fws_box.specs.Sides.{IsWithin, sides_have, whole_sides}
use Rattle.fws_net.specs.declared.site.Site.{Site}
use Rattle.fws_net.specs.Points.{tops_of}
use Rattle.fws_net.specs.Routes.{is_local}
use Rattle.fws_ipfw_put.specs.Guards.{is_unmet}

-- a point within the tops lies in the whole ranges
whole_have : (tops p : List ℕ) → IsWithin tops p → sides_have (whole_sides tops) p ≡ true
whole_have [] [] w = refl
whole_have [] (x ∷ p) w = absurd w
whole_have (top ∷ tops) [] w = absurd w
whole_have (top ∷ tops) (x ∷ p) w = and_from _ _ (or_left _ _ (and_from (nat_le 0 x) (nat_le x top) (le-leb 0 x (omega arith)) (le-leb x top w.0))) (whole_have tops p w.1)

whole_long : (tops : List ℕ) → length (whole_sides tops) ≡ length tops
whole_long [] = refl
whole_long (top ∷ tops) = ap suc (whole_long tops)

at_most : (tops x : List ℕ) (f : ℕ) → IsWithin tops x → slice_index x f ≤ slice_index tops f
at_most [] [] f within = omega arith
at_most [] (a ∷ x) f within = absurd within
at_most (top ∷ tops) [] f within = absurd within
at_most (top ∷ tops) (a ∷ x) zero within = within.0
at_most (top ∷ tops) (a ∷ x) (suc f) within = at_most tops x f within.1

-- a number is a member of the range from 1 on where it isn't 0
from_one : (x top : ℕ) → x ≤ top → has (record { lo = 1; hi = top } ∷ []) x ≡ not (nat_eq x 0)
from_one zero top le = refl
from_one (suc x) top le = or_left _ _ (and_from (nat_le 1 (suc x)) (nat_le (suc x) top) (le-leb 1 (suc x) (omega arith)) (le-leb (suc x) top le))
    ∙ sym (not_from_false (nat_eq (suc x) 0) (ne_eqb (suc x) 0 (λ e. omega arith)))

-- with another side in place of one that has the point
one_set : (sides : List (List Iv)) (x : List ℕ) (f : ℕ) (r : List Iv) → sides_have sides x ≡ true → f < length sides → sides_have (slice_set sides f r) x ≡ has r (slice_index x f)
one_set [] x f r have low = absurd (omega (arith, low))
one_set (s ∷ sides) [] f r have low = absurd (false≢true have)
one_set (s ∷ sides) (a ∷ x) zero r have low =
    ap (λ b. has r a && b) (and_parts (has s a) (sides_have sides x) have).1 ∙ and-true (has r a)
one_set (s ∷ sides) (a ∷ x) (suc f) r have low =
    let both = and_parts (has s a) (sides_have sides x) have in
    ap (λ b. b && sides_have (slice_set sides f r) x) both.0 ∙ one_set sides x f r both.1 (omega (arith, low))

two_sets : (tops x : List ℕ) (top f : ℕ) (s r : List Iv) → IsWithin (top ∷ tops) x → f < length tops
    → sides_have (slice_set (slice_set (whole_sides (top ∷ tops)) 0 s) (suc f) r) x ≡ (has s (slice_index x 0) && has r (slice_index x (suc f)))
two_sets tops [] top f s r within low = absurd within
two_sets tops (a ∷ x) top f s r within low =
    let long = whole_long tops in
    ap (λ b. has s a && b) (one_set (whole_sides tops) x f r (whole_have tops x within.1) (omega (arith, low, long)))

pub unmet_have : (site : Site) (sides : List (List Iv)) (s r : List Iv) → sides ≡ whole_sides (tops_of site) → s ≡ record { lo = 1; hi = length site.faces + 1 } ∷ []
    → ((a : ℕ) → a ≤ 2 ^ 32 - 1 → has r a ≡ (is_local site a || not site.forwarding))
    → (x : List ℕ) → IsWithin (tops_of site) x → sides_have (slice_set (slice_set sides 0 s) 8 r) x ≡ is_unmet site x
unmet_have site sides s r whole one own x within =
    let others : List ℕ = 255 ∷ (2 ^ 32 - 1) ∷ 65535 ∷ (2 ^ 32 - 1) ∷ 65535 ∷ 63 ∷ 255 ∷ (2 ^ 32 - 1) ∷ 65535 ∷ (2 ^ 32 - 1) ∷ 65535 ∷ [] in
    ap (λ ss. sides_have (slice_set (slice_set ss 0 s) 8 r) x) whole
    ∙ two_sets others x (length site.faces + 1) 7 s r within (omega arith)
    ∙ ap (λ t. has t (slice_index x 0) && has r (slice_index x 8)) one
    ∙ ap (λ b. b && has r (slice_index x 8)) (from_one (slice_index x 0) (length site.faces + 1) (at_most (tops_of site) x 0 within))
    ∙ ap (λ b. not (nat_eq (slice_index x 0) 0) && b) (own (slice_index x 8) (at_most (tops_of site) x 8 within))
