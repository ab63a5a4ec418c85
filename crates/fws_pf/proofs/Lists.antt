-- Tests that all elements of a list pass, and tests that some do.
use Rattle.std.proofs.Common.{◌≡◌, Bool, true, List, [], ◌∷◌, ◌++◌, refl, ◌∙◌}
use Rattle.std.specs.List.{list_all, list_any}
use Rattle.std.proofs.lemmas.Bool.{and_parts, and_from, or_left, or_right}
use Rattle.std.proofs.lemmas.List.Folds.{list_all-append, list_any-append}

pub all_each : {X : Type 0} (p : X → Bool) → ((x : X) → p x ≡ true) → (xs : List X) → list_all p xs ≡ true
all_each p each [] = refl
all_each p each (x ∷ xs) = and_from (p x) (list_all p xs) (each x) (all_each p each xs)

pub all_weaker : {X : Type 0} (p q : X → Bool) → ((x : X) → p x ≡ true → q x ≡ true) → (xs : List X) → list_all p xs ≡ true → list_all q xs ≡ true
all_weaker p q step [] h = refl
all_weaker p q step (x ∷ xs) h = let both = and_parts (p x) (list_all p xs) h in and_from (q x) (list_all q xs) (step x both.0) (all_weaker p q step xs both.1)

-- two tests together
pub all_together : {X : Type 0} (p q r : X → Bool) → ((x : X) → p x ≡ true → q x ≡ true → r x ≡ true) → (xs : List X) → list_all p xs ≡ true → list_all q xs ≡ true
    → list_all r xs ≡ true
all_together p q r step [] h k = refl
all_together p q r step (x ∷ xs) h k =
    let first = and_parts (p x) (list_all p xs) h in
    let other = and_parts (q x) (list_all q xs) k in
    and_from (r x) (list_all r xs) (step x first.0 other.0) (all_together p q r step xs first.1 other.1)

pub all_both : {X : Type 0} (p : X → Bool) (xs ys : List X) → list_all p xs ≡ true → list_all p ys ≡ true → list_all p (xs ++ ys) ≡ true
all_both p xs ys h k = list_all-append p xs ys ∙ and_from (list_all p xs) (list_all p ys) h k

pub all_longer : {X : Type 0} (p : X → Bool) (xs : List X) (x : X) → list_all p xs ≡ true → p x ≡ true → list_all p (xs ++ x ∷ []) ≡ true
all_longer p xs x h k = all_both p xs (x ∷ []) h (and_from (p x) true k refl)

pub any_longer : {X : Type 0} (p : X → Bool) (xs more : List X) → list_any p xs ≡ true → list_any p (xs ++ more) ≡ true
any_longer p xs more h = list_any-append p xs more ∙ or_left (list_any p xs) (list_any p more) h

pub any_behind : {X : Type 0} (p : X → Bool) (xs more : List X) → list_any p more ≡ true → list_any p (xs ++ more) ≡ true
any_behind p xs more h = list_any-append p xs more ∙ or_right (list_any p xs) (list_any p more) h
