-- Tests that all elements of a list pass, and tests that some do.
use Rattle.std.proofs.Common.{◌≡◌, Bool, true, false, Some, List, [], ◌∷◌, ◌++◌, is_some, find, refl, sym, ◌∙◌, ⊎_elim}
use Rattle.std.specs.List.{list_all, list_any}
use Rattle.std.proofs.lemmas.Bool.{false≢true, both_ways, and_parts, and_from, or_left, or_right, or_cases, cond_both}
use Rattle.std.proofs.lemmas.List.Folds.{list_all-append, list_any-append}

pub all_weaker : {X : Type 0} (p q : X → Bool) → ((x : X) → p x ≡ true → q x ≡ true) → (xs : List X) → list_all p xs ≡ true → list_all q xs ≡ true
all_weaker p q step [] h = refl
all_weaker p q step (x ∷ xs) h = let both = and_parts (p x) (list_all p xs) h in and_from (q x) (list_all q xs) (step x both.0) (all_weaker p q step xs both.1)

pub all_longer : {X : Type 0} (p : X → Bool) (xs : List X) (x : X) → list_all p xs ≡ true → p x ≡ true → list_all p (xs ++ x ∷ []) ≡ true
all_longer p xs x h k = list_all-append p xs (x ∷ []) ∙ and_from (list_all p xs) (list_all p (x ∷ [])) h (and_from (p x) true k refl)

pub any_longer : {X : Type 0} (p : X → Bool) (xs more : List X) → list_any p xs ≡ true → list_any p (xs ++ more) ≡ true
any_longer p xs more h = list_any-append p xs more ∙ or_left (list_any p xs) (list_any p more) h

pub any_last : {X : Type 0} (p : X → Bool) (xs : List X) (x : X) → p x ≡ true → list_any p (xs ++ x ∷ []) ≡ true
any_last p xs x h = list_any-append p xs (x ∷ []) ∙ or_right (list_any p xs) (list_any p (x ∷ [])) (or_left (p x) false h)

-- what passes in a longer list is before its last element, or is that
pub any_parted : {X : Type 0} (p : X → Bool) (xs : List X) (x : X) (P : Type 0) → (list_any p xs ≡ true → P) → (p x ≡ true → P) → list_any p (xs ++ x ∷ []) ≡ true → P
any_parted p xs x P h k e =
    ⊎_elim h (λ last. ⊎_elim k (λ none. absurd (false≢true none)) (or_cases (p x) false last))
    (or_cases (list_any p xs) (list_any p (x ∷ [])) (sym (list_any-append p xs (x ∷ [])) ∙ e))

-- an element that passes is found
pub found_any : {X : Type 0} (p : X → Bool) (xs : List X) → list_any p xs ≡ true → is_some (find p xs) ≡ true
found_any p [] h = absurd (false≢true h)
found_any p (x ∷ xs) h =
    cond_both (p x) (Some x) (find p xs) (λ o. is_some o ≡ true) (λ e. refl)
    (λ e. found_any p xs (⊎_elim (λ on. absurd (both_ways (p x) e on)) (λ more. more) (or_cases (p x) (list_any p xs) h)))
