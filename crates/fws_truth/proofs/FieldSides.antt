-- The whole sides with another one at the place of a field.
use Rattle.std.proofs.Common.{◌≡◌, ℕ, zero, suc, ◌<◌, true, ◌&&◌, List, [], ◌∷◌, refl, ◌∙◌, ap, arith, length, get_or, slice_set}
use Rattle.std.proofs.lemmas.Bool.{and_from, le-leb, or_left}
use Rattle.std.proofs.Math.Bool.{and-true}
use Rattle.std.specs.Prelude.{nat_le}
use Rattle.fws_iv.specs.declared.iv.Iv.{Iv}
use Rattle.fws_iv.specs.Ivs.{has}
use Rattle.fws_box.specs.Sides.{IsWithin, sides_have, whole_sides}

-- a point within the tops lies in the whole ranges
whole_have : (tops p : List ℕ) → IsWithin tops p → sides_have (whole_sides tops) p ≡ true
whole_have [] [] w = refl
whole_have [] (x ∷ p) w = absurd w
whole_have (top ∷ tops) [] w = absurd w
whole_have (top ∷ tops) (x ∷ p) w = and_from _ _ (or_left _ _ (and_from (nat_le 0 x) (nat_le x top) (le-leb 0 x (omega arith)) (le-leb x top w.0))) (whole_have tops p w.1)

-- the whole sides with another one at one place have a point where that one has its value
pub one_side : (tops q : List ℕ) (f : ℕ) (s : List Iv) → IsWithin tops q → f < length tops → sides_have (slice_set (whole_sides tops) f s) q ≡ has s (get_or q f 0)
one_side [] q f s w lt = absurd (omega arith)
one_side (top ∷ tops) [] f s w lt = absurd w
one_side (top ∷ tops) (x ∷ q) zero s w lt = ap (λ b. has s x && b) (whole_have tops q w.1) ∙ and-true (has s x)
one_side (top ∷ tops) (x ∷ q) (suc f) s w lt =
    ap (λ b. b && sides_have (slice_set (whole_sides tops) f s) q) inside ∙ one_side tops q f s w.1 (omega arith)
  where
    inside : has (record { lo = 0; hi = top } ∷ []) x ≡ true
    inside = or_left _ _ (and_from (nat_le 0 x) (nat_le x top) (le-leb 0 x (omega arith)) (le-leb x top w.0))
