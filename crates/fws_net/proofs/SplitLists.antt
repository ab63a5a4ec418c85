-- What tests on a whole list tell of an item in its midst.
use Rattle.std.proofs.Common.{◌≡◌, ◌<◌, Bool, true, false, ◌||◌, not, List, [], ◌∷◌, ◌++◌, map, length, refl, ap, sym, ◌∙◌, arith}
use Rattle.std.proofs.lemmas.Bool.{and_from, and_parts, or_from, not-true}
use Rattle.std.specs.List.{list_any, list_all}
use Rattle.fws_net.specs.SiteLaws.{all_pairs}

pub all_at : {A : Type 0} (p : A → Bool) (front : List A) (x : A) (behind : List A) → list_all p (front ++ x ∷ behind) ≡ true → p x ≡ true
all_at p [] x behind h = (and_parts (p x) (list_all p behind) h).0
all_at p (y ∷ front) x behind h = all_at p front x behind (and_parts (p y) (list_all p (front ++ x ∷ behind)) h).1

-- the earlier items pass the test with it
pub pairs_at : {A : Type 0} (test : A → A → Bool) (front : List A) (x : A) (behind : List A) → all_pairs test (front ++ x ∷ behind) ≡ true
    → list_all (λ y. test y x) front ≡ true
pairs_at test [] x behind h = refl
pairs_at test (y ∷ front) x behind h =
    let parts = and_parts (list_all (test y) (front ++ x ∷ behind)) (all_pairs test (front ++ x ∷ behind)) h in
    and_from (test y x) (list_all (λ z. test z x) front) (all_at (test y) front x behind parts.0) (pairs_at test front x behind parts.1)

-- where each fails a test, none passes it
pub none_any : {A : Type 0} (p : A → Bool) (xs : List A) → list_all (λ x. not (p x)) xs ≡ true → list_any p xs ≡ false
none_any p [] h = refl
none_any p (x ∷ xs) h =
    let parts = and_parts (not (p x)) (list_all (λ y. not (p y)) xs) h in
    or_from (p x) (list_any p xs) (not-true (p x) parts.0) (none_any p xs parts.1)

-- no earlier item is one that the test excludes
pub none_earlier : {A : Type 0} (same : A → A → Bool) (front : List A) (x : A) (behind whole : List A) → whole ≡ front ++ x ∷ behind
    → all_pairs (λ y z. not (same y z)) whole ≡ true → list_any (λ y. same y x) front ≡ false
none_earlier same front x behind whole e h =
    none_any (λ y. same y x) front (pairs_at (λ y z. not (same y z)) front x behind (ap (all_pairs (λ y z. not (same y z))) (sym e) ∙ h))

pub all_of : {A : Type 0} (p : A → Bool) (front : List A) (x : A) (behind whole : List A) → whole ≡ front ++ x ∷ behind → list_all p whole ≡ true → p x ≡ true
all_of p front x behind whole e h = all_at p front x behind (ap (list_all p) (sym e) ∙ h)

-- what is asked of a part of each item
pub any_mapped : {A B : Type 0} (f : A → B) (t : B → Bool) (xs : List A) → list_any (λ x. t (f x)) xs ≡ list_any t (map f xs)
any_mapped f t [] = refl
any_mapped f t (x ∷ xs) = ap (λ b. t (f x) || b) (any_mapped f t xs)

pub length_split : {A : Type 0} (front : List A) (x : A) (behind : List A) → length front < length (front ++ x ∷ behind)
length_split [] x behind = omega arith
length_split (y ∷ front) x behind = let h = length_split front x behind in omega arith
