-- How classes are divided and split.
use Rattle.std.proofs.Common.{◌≡◌, ℕ, suc, ◌≤◌, Bool, true, false, ◌&&◌, ◌||◌, nat_le, List, [], ◌∷◌, length, refl, ◌∙◌, ap, arith}
use Rattle.std.proofs.lemmas.Bool.Decides.{nat_tests}
use Rattle.fws_iv.specs.Ivs.{has}
use Rattle.fws_box.specs.Sides.{sides_have, whole_sides, IsWithin}
use Rattle.fws_exec.specs.declared.spot.Spot.{Spot}
use Rattle.fws_exec.specs.declared.spot.Spot.TheVariants.{Unused, Dropped, At, Before}
use Rattle.fws_exec.specs.Classes.{is_before}

-- each point within the tops is one of the whole box
pub in_whole : (tops p : List ℕ) → IsWithin tops p → sides_have (whole_sides tops) p ≡ true
in_whole [] [] w = refl
in_whole [] (x ∷ p) w = absurd w
in_whole (top ∷ tops) [] w = absurd w
in_whole (top ∷ tops) (x ∷ p) w = both (has (record { lo = 0; hi = top } ∷ []) x) (sides_have (whole_sides tops) p) (in_range top x w.0) (in_whole tops p w.1)
  where
    both : (a b : Bool) → a ≡ true → b ≡ true → (a && b) ≡ true
    both a b e f = ap (λ c. c && b) e ∙ f

    in_range : (top x : ℕ) → x ≤ top → has (record { lo = 0; hi = top } ∷ []) x ≡ true
    in_range top x le =
        let low : nat_le 0 x ≡ true = grind (arith, nat_tests) in
        let high : nat_le x top ≡ true = grind (arith, nat_tests) in
        one (nat_le 0 x) (nat_le x top) low high
      where
        one : (a b : Bool) → a ≡ true → b ≡ true → ((a && b) || false) ≡ true
        one a b e f = ap (λ c. (c && b) || false) e ∙ ap (λ c. c || false) f

-- a point within the tops has a value for each
pub within_length : (tops p : List ℕ) → IsWithin tops p → length p ≡ length tops
within_length [] [] w = refl
within_length [] (x ∷ p) w = absurd w
within_length (top ∷ tops) [] w = absurd w
within_length (top ∷ tops) (x ∷ p) w = ap (λ n. suc n) (within_length tops p w.1)

-- a spot before a place is before a later one
pub before_less : (q r : ℕ) (s : Spot) → q ≤ r → is_before r s ≡ false → is_before q s ≡ false
before_less q r Unused le h = refl
before_less q r Dropped le h = refl
before_less q r (Before stage) le h = refl
before_less q r (At n) le h = grind (arith, nat_tests)
