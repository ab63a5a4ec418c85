-- A point with some of its fields taken from another one.
use Rattle.std.proofs.Common.{◌≡◌, ℕ, zero, suc, ◌≤◌, Bool, true, false, cond, List, [], ◌∷◌, refl, sym, ◌∙◌, get_or}
use Rattle.std.proofs.lemmas.Bool.{cond-true, cond-false}
use Rattle.fws_box.specs.Sides.{IsWithin}
use Rattle.fws_tree.specs.Changed.{is_free, Agree}

-- the fields that pass a test are those of the first point, the others those of the second one
abbrev pub mixed : (ℕ → Bool) → List ℕ → List ℕ → List ℕ
mixed free [] y = []
mixed free (a ∷ q) [] = []
mixed free (a ∷ q) (b ∷ y) = cond (free 0) a b ∷ mixed (λ k. free (suc k)) q y

pub mixed_within : (free : ℕ → Bool) (tops q y : List ℕ) → IsWithin tops q → IsWithin tops y → IsWithin tops (mixed free q y)
mixed_within free [] [] y w v = tt
mixed_within free [] (a ∷ q) y w v = absurd w
mixed_within free (top ∷ tops) [] y w v = absurd w
mixed_within free (top ∷ tops) (a ∷ q) [] w v = absurd v
mixed_within free (top ∷ tops) (a ∷ q) (b ∷ y) w v = (low (free 0), mixed_within (λ k. free (suc k)) tops q y w.1 v.1)
  where
    low : (c : Bool) → cond c a b ≤ top
    low true = w.0
    low false = v.0

nothing : (c : Bool) (n : ℕ) → n ≡ cond c n n
nothing true n = refl
nothing false n = refl

pub mixed_at : (free : ℕ → Bool) (tops q y : List ℕ) → IsWithin tops q → IsWithin tops y → (k : ℕ)
    → get_or (mixed free q y) k 0 ≡ cond (free k) (get_or q k 0) (get_or y k 0)
mixed_at free [] [] [] w v k = nothing (free k) 0
mixed_at free [] [] (b ∷ y) w v k = absurd v
mixed_at free [] (a ∷ q) y w v k = absurd w
mixed_at free (top ∷ tops) [] y w v k = absurd w
mixed_at free (top ∷ tops) (a ∷ q) [] w v k = absurd v
mixed_at free (top ∷ tops) (a ∷ q) (b ∷ y) w v zero = refl
mixed_at free (top ∷ tops) (a ∷ q) (b ∷ y) w v (suc k) = mixed_at (λ j. free (suc j)) tops q y w.1 v.1 k

-- a point whose fields of a set are another one's
abbrev pub with_fields : ℕ → List ℕ → List ℕ → List ℕ
with_fields fields q y = mixed (λ k. is_free fields k) q y

-- a field of the set is the other one's
pub field_taken : (fields : ℕ) (tops q y : List ℕ) → IsWithin tops q → IsWithin tops y → (k : ℕ) → is_free fields k ≡ true
    → get_or q k 0 ≡ get_or (with_fields fields q y) k 0
field_taken fields tops q y w v k e = sym (mixed_at (λ j. is_free fields j) tops q y w v k ∙ cond-true (is_free fields k) (get_or q k 0) (get_or y k 0) e)

-- and a further one stays
pub field_kept : (fields : ℕ) (tops q y : List ℕ) → IsWithin tops q → IsWithin tops y → (k : ℕ) → is_free fields k ≡ false
    → get_or y k 0 ≡ get_or (with_fields fields q y) k 0
field_kept fields tops q y w v k e = sym (mixed_at (λ j. is_free fields j) tops q y w v k ∙ cond-false (is_free fields k) (get_or q k 0) (get_or y k 0) e)

pub agree_mixed : (fields : ℕ) (tops q y : List ℕ) → IsWithin tops q → IsWithin tops y → Agree fields y (with_fields fields q y)
agree_mixed fields tops q y w v = λ k e. field_kept fields tops q y w v k e

-- a field that is alike in two points is alike in another one like the first, and in the second one with the set's fields of that
pub field_alike : (fields : ℕ) (tops x y q : List ℕ) → IsWithin tops q → IsWithin tops y → Agree fields x q → (k : ℕ) → get_or x k 0 ≡ get_or y k 0
    → get_or q k 0 ≡ get_or (with_fields fields q y) k 0
field_alike fields tops x y q w v agree k same = by (is_free fields k) refl
  where
    by : (c : Bool) → is_free fields k ≡ c → get_or q k 0 ≡ get_or (with_fields fields q y) k 0
    by true e = field_taken fields tops q y w v k e
    by false e = sym (agree k e) ∙ same ∙ field_kept fields tops q y w v k e
