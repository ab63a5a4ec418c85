-- One more item in a list.
use Rattle.std.proofs.Common.{◌≡◌, suc, Bool, true, List, [], ◌∷◌, ◌++◌, length, refl, ap, ◌∙◌}
use Rattle.std.proofs.lemmas.Bool.{and_from, and_parts}
use Rattle.std.specs.List.{list_all}
use Rattle.fws_net.specs.SiteLaws.{all_pairs}

-- the second list is the first with the item at some place
pub data Inserted {A : Type 0} (x : A) : List A → List A → Type 0 where
  here : {xs : List A} → Inserted x xs (x ∷ xs)
  there : {y : A} {xs ys : List A} → Inserted x xs ys → Inserted x (y ∷ xs) (y ∷ ys)

pub pushed : {A : Type 0} (x : A) (xs : List A) → Inserted x xs (xs ++ x ∷ [])
pushed x [] = here
pushed x (y ∷ ys) = there (pushed x ys)

pub in_front : {A : Type 0} (x : A) (zs xs ys : List A) → Inserted x xs ys → Inserted x (zs ++ xs) (zs ++ ys)
in_front x [] xs ys h = h
in_front x (z ∷ zs) xs ys h = there (in_front x zs xs ys h)

pub in_back : {A : Type 0} (x : A) (xs ys zs : List A) → Inserted x xs ys → Inserted x (xs ++ zs) (ys ++ zs)
in_back x xs ys zs here = here
in_back x xs ys zs (there {xs = us} {ys = vs} h) = there (in_back x us vs zs h)

pub length_inserted : {A : Type 0} (x : A) (xs ys : List A) → Inserted x xs ys → length ys ≡ suc (length xs)
length_inserted x xs ys here = refl
length_inserted x xs ys (there {xs = us} {ys = vs} h) = ap (λ n. suc n) (length_inserted x us vs h)

pub all_inserted : {A : Type 0} (p : A → Bool) (x : A) (xs ys : List A) → Inserted x xs ys → p x ≡ true → list_all p xs ≡ true → list_all p ys ≡ true
all_inserted p x xs ys here e h = and_from (p x) (list_all p xs) e h
all_inserted p x xs ys (there {y = y} {xs = us} {ys = vs} k) e h =
    let parts = and_parts (p y) (list_all p us) h in
    and_from (p y) (list_all p vs) parts.0 (all_inserted p x us vs k e parts.1)

-- a test that doesn't ask which of two comes first
abbrev pub IsSymmetric : {A : Type 0} → (A → A → Bool) → Type 0
IsSymmetric {A} test = (a b : A) → test a b ≡ test b a

-- an item that passes the test with all others
pub pairs_inserted : {A : Type 0} (test : A → A → Bool) → IsSymmetric test → (x : A) (xs ys : List A) → Inserted x xs ys
    → list_all (test x) xs ≡ true → all_pairs test xs ≡ true → all_pairs test ys ≡ true
pairs_inserted test s x xs ys here e h = and_from (list_all (test x) xs) (all_pairs test xs) e h
pairs_inserted test s x xs ys (there {y = y} {xs = us} {ys = vs} k) e h =
    let tested = and_parts (test x y) (list_all (test x) us) e in
    let parts = and_parts (list_all (test y) us) (all_pairs test us) h in
    and_from (list_all (test y) vs) (all_pairs test vs) (all_inserted (test y) x us vs k (s y x ∙ tested.0) parts.0)
    (pairs_inserted test s x us vs k tested.1 parts.1)
