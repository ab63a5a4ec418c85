-- The sides of packets that cross.
use Rattle.std.proofs.Common.{◌≡◌, ℕ, suc, ◌-◌, ◌^◌, ◌<◌, ◌≤◌, true, false, ◌&&◌, List, [], ◌∷◌, ◌++◌, refl, sym, ◌∙◌, ap, subst, arith, length, get_or}
use Rattle.std.proofs.lemmas.Bool.{le-leb, and_from, or_left}
use Rattle.std.proofs.lemmas.List.FromFn.{fill_by_all}
use Rattle.std.proofs.Math.Bool.{and-true, and_assoc}
use Rattle.std.specs.Prelude.{nat_le, slice_set}
use Rattle.fws_iv.specs.declared.iv.Iv.{Iv}
use Rattle.fws_iv.specs.Ivs.{has}
use Rattle.fws_box.specs.Sides.{IsWithin, sides_have, whole_sides}
use Rattle.fws_ios_put_sources.specs.Crossing.{is_sent_outside}
use Rattle.fws_ios_put_sources.specs.Sources.{crosses, is_on}
use Rattle.fws_net.specs.declared.site.Site.{Site}
use Rattle.fws_net.specs.Points.{packet_of, tops_of}
use Rattle.fws_place.specs.Meaning.{point_of, rec_of}
use Rattle.fws_place.specs.Rewritings.{side_of}
use Rattle.fws_ios_put_sources.proofs.SideSets.{crossed}

-- ---- points

pub within_length : (tops p : List ℕ) → IsWithin tops p → length p ≡ length tops
within_length [] [] w = refl
within_length [] (x ∷ p) w = absurd w
within_length (top ∷ tops) [] w = absurd w
within_length (top ∷ tops) (x ∷ p) w = ap suc (within_length tops p w.1)

-- a point of a site is that of its packet and its ends
pub point_back : (site : Site) (q : List ℕ) → IsWithin (tops_of site) q → point_of (packet_of q) (rec_of q) ≡ q
point_back site q w = sym (fill_by_all (λ k. get_or q k 0) q 12 0 (within_length (tops_of site) q w) (λ k lt. refl))

within_split : (tops others p q : List ℕ) → length tops ≡ length p → IsWithin (tops ++ others) (p ++ q) → IsWithin tops p × IsWithin others q
within_split [] others [] q e w = (tt, w)
within_split [] others (x ∷ p) q e w = absurd (omega arith)
within_split (top ∷ tops) others [] q e w = absurd (omega arith)
within_split (top ∷ tops) others (x ∷ p) q e w = let both = within_split tops others p q (omega arith) w.1 in ((w.0, both.0), both.1)

-- ---- sides

-- a test of the whole is a test of the fields before one and a test of the others
sides_have-append : (front rest : List (List Iv)) (before after : List ℕ) → length front ≡ length before
    → sides_have (front ++ rest) (before ++ after) ≡ (sides_have front before && sides_have rest after)
sides_have-append [] rest [] after e = refl
sides_have-append [] rest (x ∷ before) after e = absurd (omega arith)
sides_have-append (s ∷ front) rest [] after e = absurd (omega arith)
sides_have-append (s ∷ front) rest (x ∷ before) after e =
    ap (λ b. has s x && b) (sides_have-append front rest before after (omega arith)) ∙ sym (and_assoc (has s x) (sides_have front before) (sides_have rest after))

-- a point within the tops lies in the whole ranges
whole_have : (tops p : List ℕ) → IsWithin tops p → sides_have (whole_sides tops) p ≡ true
whole_have [] [] w = refl
whole_have [] (x ∷ p) w = absurd w
whole_have (top ∷ tops) [] w = absurd w
whole_have (top ∷ tops) (x ∷ p) w = and_from _ _ (or_left _ _ (and_from (nat_le 0 x) (nat_le x top) (le-leb 0 x (omega arith)) (le-leb x top w.0))) (whole_have tops p w.1)

-- with other sides at two places
two_sides : (s r : List Iv) (tops others : List ℕ) (x y : ℕ) (p q : List ℕ) → length tops ≡ length p → IsWithin tops p → IsWithin others q
    → sides_have (s ∷ whole_sides tops ++ r ∷ whole_sides others) (x ∷ p ++ y ∷ q) ≡ (has s x && has r y)
two_sides s r tops others x y p q e w v =
    ap (λ b. has s x && b)
    (sides_have-append (whole_sides tops) (r ∷ whole_sides others) p (y ∷ q) (whole_length tops ∙ e)
    ∙ ap (λ b. b && (has r y && sides_have (whole_sides others) q)) (whole_have tops p w)
    ∙ ap (λ b. has r y && b) (whole_have others q v) ∙ and-true (has r y))
  where
    whole_length : (ts : List ℕ) → length (whole_sides ts) ≡ length ts
    whole_length [] = refl
    whole_length (t ∷ ts) = ap suc (whole_length ts)

-- the sides of packets that cross
pub crossing_box : (site : Site) (sides : List (List Iv)) (s r : List Iv) → sides ≡ whole_sides (tops_of site) → ((n : ℕ) → has s n ≡ is_on false (side_of site n))
    → ((a : ℕ) → has r a ≡ is_sent_outside site a) → (x : List ℕ) → IsWithin (tops_of site) x → sides_have (slice_set (slice_set sides 0 s) 2 r) x ≡ crosses site (packet_of x)
crossing_box site sides s r wide inside outside x w =
    let at : ℕ → ℕ = λ k. get_or x k 0 in
    let p : List ℕ = at 1 ∷ [] in
    let q : List ℕ = at 3 ∷ at 4 ∷ at 5 ∷ at 6 ∷ at 7 ∷ at 8 ∷ at 9 ∷ at 10 ∷ at 11 ∷ [] in
    let back : point_of (packet_of x) (rec_of x) ≡ x = point_back site x w in
    let middle : List ℕ = 255 ∷ [] in
    let others : List ℕ = 65535 ∷ (2 ^ 32 - 1) ∷ 65535 ∷ 63 ∷ 255 ∷ (2 ^ 32 - 1) ∷ 65535 ∷ (2 ^ 32 - 1) ∷ 65535 ∷ [] in
    let v : IsWithin (tops_of site) (at 0 ∷ p ++ at 2 ∷ q) = subst (λ k. IsWithin (tops_of site) k) (sym back) w in
    let parts = within_split middle ((2 ^ 32 - 1) ∷ others) p (at 2 ∷ q) refl v.1 in
    let low : at 2 < 2 ^ 32 = (let le : at 2 ≤ 2 ^ 32 - 1 = parts.1.0 in omega arith) in
    ap (λ ws. sides_have (slice_set (slice_set ws 0 s) 2 r) x) wide
    ∙ ap (λ k. sides_have (slice_set (slice_set (whole_sides (tops_of site)) 0 s) 2 r) k) (sym back)
    ∙ two_sides s r middle others (at 0) (at 2) p q refl parts.0 parts.1.1
    ∙ ap (λ b. b && has r (at 2)) (inside (at 0)) ∙ ap (λ b. is_on false (side_of site (at 0)) && b) (outside (at 2))
    ∙ crossed site (at 0) (at 2) low
