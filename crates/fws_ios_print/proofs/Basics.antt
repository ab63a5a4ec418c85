-- Small steps that the proofs of this crate share.
use Rattle.std.proofs.Common.{◌≡◌, ◌≢◌, ◌⊎◌, ℕ, zero, suc, ◌+◌, ◌<◌, ◌≤◌, Bool, true, false, cond, not, ◌||◌, nat_eq, Option, Some, None, Result, Ok, List, [], ◌∷◌, refl, ap, sym, ◌∙◌, inl, inr, arith}
use Rattle.std.proofs.lemmas.Bool.{cases_Bool, eqb-true, eqb-false, false≢true, true≢false, and_from, and_parts, false_from_ne_true}
use Rattle.std.proofs.lemmas.Slice.Eq.{bytes_eq-Decides}
use Rattle.std.specs.List.{list_all, range_with_len}
use Rattle.std.specs.Str.{bytes_eq}
use Rattle.fws_net.specs.Reading.{and_then}

pub then_ok : {A B E : Type 0} (r : Result A E) (f : A → Result B E) (x : A) (s : Result B E) → r ≡ Ok x → f x ≡ s → and_then r f ≡ s
then_ok r f x s e k = ap (λ o. and_then o f) e ∙ k

pub if_true : {A : Type 0} (b : Bool) (x y : A) → b ≡ true → cond b x y ≡ x
if_true b x y e = ap (λ t. cond t x y) e

pub if_false : {A : Type 0} (b : Bool) (x y : A) → b ≡ false → cond b x y ≡ y
if_false b x y e = ap (λ t. cond t x y) e

-- whether an option has a value
pub option_cases : {A : Type 0} (o : Option A) → (o ≡ None) ⊎ ((x : A) × (o ≡ Some x))
option_cases None = inl refl
option_cases (Some x) = inr (x, refl)

-- a condition that fails has no branch
pub never : {A : Type 0} → false ≡ true → A
never e = absurd (false≢true e)

pub bytes_same : (a : List ℕ) → bytes_eq a a ≡ true
bytes_same a = (bytes_eq-Decides a a).1 refl

-- texts of which one passes a test and the other doesn't
pub texts_differ : (p : ℕ → Bool) (a b : List ℕ) → list_all p a ≡ true → list_all p b ≡ false → bytes_eq a b ≡ false
texts_differ p a b h k =
    false_from_ne_true (bytes_eq a b) (λ e. true≢false (sym h ∙ ap (list_all p) ((bytes_eq-Decides a b).0 e) ∙ k))

pub text_some : (a : List ℕ) → a ≢ [] → bytes_eq a [] ≡ false
text_some a h = false_from_ne_true (bytes_eq a []) (λ e. h ((bytes_eq-Decides a []).0 e))

pub all_weaker : {A : Type 0} (p q : A → Bool) → ((x : A) → p x ≡ true → q x ≡ true) → (xs : List A) → list_all p xs ≡ true → list_all q xs ≡ true
all_weaker p q by [] h = refl
all_weaker p q by (x ∷ xs) h =
    let parts = and_parts (p x) (list_all p xs) h in
    and_from (q x) (list_all q xs) (by x parts.0) (all_weaker p q by xs parts.1)

-- a test that holds of the numbers from one on holds of each of them
pub at_number : (p : ℕ → Bool) (a n m : ℕ) → list_all p (range_with_len a n) ≡ true → a ≤ m → m < a + n → p m ≡ true
at_number p a zero m h low high = absurd (omega arith)
at_number p a (suc n) m h low high =
    let parts = and_parts (p a) (list_all p (range_with_len (a + 1) n)) h in
    elim (cases_Bool (nat_eq a m)) [
      | inl e ↦ ap p (sym (eqb-true a m e)) ∙ parts.0
      | inr e ↦ (let other : a ≢ m = eqb-false a m e in at_number p (a + 1) n m parts.1 (omega arith) (omega arith))
    ]

-- what is implied by a test that holds
pub implied : (a b : Bool) → a ≡ true → (not a || b) ≡ true → b ≡ true
implied true b h k = k
implied false b h k = never h
