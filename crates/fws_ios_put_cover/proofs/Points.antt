-- Points of boxes by their fields.
use Rattle.std.proofs.Common.{◌≡◌, ℕ, zero, suc, ◌<◌, ◌≤◌, Bool, true, false, ◌&&◌, ◌||◌, List, [], ◌∷◌, length, refl, ap, arith}
use Rattle.std.proofs.lemmas.Bool.{and_from, and_parts, false≢true}
use Rattle.std.proofs.lemmas.Bool.Decides.{nat_tests}
use Rattle.std.specs.Prelude.{nat_eq, nat_le, slice_index, if◌then◌else◌}
use Rattle.fws_box.specs.Sides.{IsWithin, sides_have}
use Rattle.fws_iv.specs.declared.iv.Iv.{Iv}
use Rattle.fws_iv.specs.Ivs.{has}
use Rattle.fws_ios_put_cover.specs.Boxes.{is_seen, part}

-- the value of a field is a member of its set
pub have_at : (sides : List (List Iv)) (x : List ℕ) (f : ℕ) → f < length sides → sides_have sides x ≡ true → has (part sides f) (slice_index x f) ≡ true
have_at [] x f lt h = absurd (omega (arith, lt))
have_at (s ∷ sides) [] f lt h = absurd (false≢true h)
have_at (s ∷ sides) (a ∷ x) zero lt h = (and_parts (has s a) (sides_have sides x) h).0
have_at (s ∷ sides) (a ∷ x) (suc f) lt h = have_at sides x f (omega (arith, lt)) (and_parts (has s a) (sides_have sides x) h).1

-- a point of which all values are members
pub have_from : (sides : List (List Iv)) (x : List ℕ) → length sides ≡ length x → ((f : ℕ) → f < length sides → has (part sides f) (slice_index x f) ≡ true) → sides_have sides x ≡ true
have_from [] x same h = refl
have_from (s ∷ sides) [] same h = absurd (omega (arith, same))
have_from (s ∷ sides) (a ∷ x) same h =
    and_from (has s a) (sides_have sides x) (h 0 (omega arith)) (have_from sides x (omega (arith, same)) (λ f lt. h (suc f) (omega (arith, lt))))

pub within_length : (tops x : List ℕ) → IsWithin tops x → length x ≡ length tops
within_length [] [] w = refl
within_length [] (a ∷ x) w = absurd w
within_length (top ∷ tops) [] w = absurd w
within_length (top ∷ tops) (a ∷ x) w = ap suc (within_length tops x w.1)

pub within_at : (tops x : List ℕ) (f : ℕ) → IsWithin tops x → slice_index x f ≤ slice_index tops f
within_at [] [] f w = omega arith
within_at [] (a ∷ x) f w = absurd w
within_at (top ∷ tops) [] f w = absurd w
within_at (top ∷ tops) (a ∷ x) zero w = w.0
within_at (top ∷ tops) (a ∷ x) (suc f) w = within_at tops x f w.1

-- the values of one point for some fields, and those of another for the rest
abbrev pub mixed : (ℕ → Bool) → List ℕ → List ℕ → List ℕ
mixed keep [] z = []
mixed keep (a ∷ y) [] = []
mixed keep (a ∷ y) (b ∷ z) = (if keep 0 then a else b) ∷ mixed (λ f. keep (suc f)) y z

chosen : (P : ℕ → Type 0) (c : Bool) (a b : ℕ) → P a → P b → P (if c then a else b)
chosen P true a b x y = x
chosen P false a b x y = y

pub mixed_within : (tops : List ℕ) (keep : ℕ → Bool) (y z : List ℕ) → IsWithin tops y → IsWithin tops z → IsWithin tops (mixed keep y z)
mixed_within [] keep [] [] v w = tt
mixed_within [] keep [] (b ∷ z) v w = absurd w
mixed_within [] keep (a ∷ y) z v w = absurd v
mixed_within (top ∷ tops) keep [] z v w = absurd v
mixed_within (top ∷ tops) keep (a ∷ y) [] v w = absurd w
mixed_within (top ∷ tops) keep (a ∷ y) (b ∷ z) v w = (chosen (λ n. n ≤ top) (keep 0) a b v.0 w.0, mixed_within tops (λ f. keep (suc f)) y z v.1 w.1)

pub mixed_at : (keep : ℕ → Bool) (y z : List ℕ) (f : ℕ) → length y ≡ length z → f < length y → slice_index (mixed keep y z) f ≡ (if keep f then slice_index y f else slice_index z f)
mixed_at keep [] z f same lt = absurd (omega (arith, lt))
mixed_at keep (a ∷ y) [] f same lt = absurd (omega (arith, same))
mixed_at keep (a ∷ y) (b ∷ z) zero same lt = refl
mixed_at keep (a ∷ y) (b ∷ z) (suc f) same lt = mixed_at (λ g. keep (suc g)) y z f (omega (arith, same)) (omega (arith, lt))

-- what holds of each field that entries can ask for
pub seen_fields : (P : ℕ → Type 0) → P 1 → P 2 → P 3 → P 4 → P 5 → P 7 → (f : ℕ) → is_seen f ≡ true → P f
seen_fields P p1 p2 p3 p4 p5 p7 zero h = absurd (false≢true h)
seen_fields P p1 p2 p3 p4 p5 p7 (suc zero) h = p1
seen_fields P p1 p2 p3 p4 p5 p7 (suc (suc zero)) h = p2
seen_fields P p1 p2 p3 p4 p5 p7 (suc (suc (suc zero))) h = p3
seen_fields P p1 p2 p3 p4 p5 p7 (suc (suc (suc (suc zero)))) h = p4
seen_fields P p1 p2 p3 p4 p5 p7 (suc (suc (suc (suc (suc zero))))) h = p5
seen_fields P p1 p2 p3 p4 p5 p7 (suc (suc (suc (suc (suc (suc zero)))))) h = absurd (false≢true h)
seen_fields P p1 p2 p3 p4 p5 p7 (suc (suc (suc (suc (suc (suc (suc zero))))))) h = p7
seen_fields P p1 p2 p3 p4 p5 p7 (suc (suc (suc (suc (suc (suc (suc (suc n)))))))) h = absurd (never n h)
  where
    never : (n : ℕ) → ((nat_le 1 (suc (suc (suc (suc (suc (suc (suc (suc n)))))))) && nat_le (suc (suc (suc (suc (suc (suc (suc (suc n)))))))) 5) || nat_eq (suc (suc (suc (suc (suc (suc (suc (suc n)))))))) 7) ≡ true → ⊥
    never n h = grind (arith, nat_tests)
