-- Tests that all elements of a list pass, and tests that some do.
use Rattle.std.proofs.Common.{◌≡◌, Bool, true, List, [], ◌∷◌, ◌++◌, filter, refl, ◌∙◌}
use Rattle.std.specs.List.{list_all}
use Rattle.std.proofs.lemmas.Bool.{and_parts, and_from, cond_both}
use Rattle.std.proofs.lemmas.List.Folds.{list_all-append}

pub all_longer : {X : Type 0} (p : X → Bool) (xs : List X) (x : X) → list_all p xs ≡ true → p x ≡ true → list_all p (xs ++ x ∷ []) ≡ true
all_longer p xs x h k = list_all-append p xs (x ∷ []) ∙ and_from (list_all p xs) (list_all p (x ∷ [])) h (and_from (p x) true k refl)

-- a filter keeps what all pass
pub all_filtered : {X : Type 0} (p q : X → Bool) (xs : List X) → list_all p xs ≡ true → list_all p (filter q xs) ≡ true
all_filtered p q [] h = refl
all_filtered p q (x ∷ xs) h =
    let both = and_parts (p x) (list_all p xs) h in
    let more = all_filtered p q xs both.1 in
    cond_both (q x) (x ∷ filter q xs) (filter q xs) (λ ys. list_all p ys ≡ true) (λ e. and_from (p x) (list_all p (filter q xs)) both.0 more) (λ e. more)

-- what is left passes the test of the filter
pub all_passed : {X : Type 0} (q : X → Bool) (xs : List X) → list_all q (filter q xs) ≡ true
all_passed q [] = refl
all_passed q (x ∷ xs) =
    cond_both (q x) (x ∷ filter q xs) (filter q xs) (λ ys. list_all q ys ≡ true) (λ e. and_from (q x) (list_all q (filter q xs)) e (all_passed q xs))
    (λ e. all_passed q xs)
