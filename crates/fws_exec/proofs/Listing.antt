-- Tests of lists of which a loop has passed the first items.
use Rattle.std.proofs.Common.{◌≡◌, ℕ, zero, suc, ◌+◌, ◌<◌, ◌≤◌, Bool, true, false, ◌&&◌, ◌||◌, nat_eq, List, [], ◌∷◌, ◌++◌, length, get_or, take, set, refl, sym, ◌∙◌, ap, arith}
use Rattle.std.specs.List.{list_any, list_all}
use Rattle.std.proofs.lemmas.Bool.{eq-eqb, false≢true}
use Rattle.std.proofs.lemmas.Grind.{get_or_default_zero}
use Rattle.std.proofs.lemmas.List.{take_all, take_more}
use Rattle.std.proofs.lemmas.List.Folds.{list_any-append, list_all-append}

or_nothing : (a b : Bool) → (a || (b || false)) ≡ (a || b)
or_nothing true b = refl
or_nothing false true = refl
or_nothing false false = refl

and_nothing : (a b : Bool) → (a && (b && true)) ≡ (a && b)
and_nothing true true = refl
and_nothing true false = refl
and_nothing false b = refl

-- with one more item
pub any_more : {X : Type 0} (f : X → Bool) (xs : List X) (k : ℕ) (x : X) → k < length xs → x ≡ get_or xs k x → list_any f (take (k + 1) xs) ≡ (list_any f (take k xs) || f x)
any_more f xs k x lt is =
    ap (λ ys. list_any f ys) (take_more xs k x lt ∙ ap (λ y. take k xs ++ y ∷ []) (sym is))
    ∙ list_any-append f (take k xs) (x ∷ []) ∙ or_nothing (list_any f (take k xs)) (f x)

pub all_more : {X : Type 0} (f : X → Bool) (xs : List X) (k : ℕ) (x : X) → k < length xs → x ≡ get_or xs k x → list_all f (take (k + 1) xs) ≡ (list_all f (take k xs) && f x)
all_more f xs k x lt is =
    ap (λ ys. list_all f ys) (take_more xs k x lt ∙ ap (λ y. take k xs ++ y ∷ []) (sym is))
    ∙ list_all-append f (take k xs) (x ∷ []) ∙ and_nothing (list_all f (take k xs)) (f x)

-- with all items
pub any_all : {X : Type 0} (f : X → Bool) (xs : List X) (k : ℕ) → length xs ≤ k → list_any f (take k xs) ≡ list_any f xs
any_all f xs k le = ap (λ ys. list_any f ys) (take_all k xs le)

-- an item that passes the test, and one that doesn't
pub any_item : {X : Type 0} (f : X → Bool) (xs : List X) (k : ℕ) (x : X) → k < length xs → x ≡ get_or xs k x → f x ≡ true → list_any f xs ≡ true
any_item f [] k x lt is h = absurd (omega arith)
any_item f (y ∷ xs) zero x lt is h = ap (λ b. b || list_any f xs) (ap f (sym is) ∙ h)
any_item f (y ∷ xs) (suc k) x lt is h = ap (λ b. f y || b) (any_item f xs k x (omega arith) is h) ∙ or_true (f y)
  where
    or_true : (a : Bool) → (a || true) ≡ true
    or_true true = refl
    or_true false = refl

pub all_item : {X : Type 0} (f : X → Bool) (xs : List X) (k : ℕ) (x : X) → k < length xs → x ≡ get_or xs k x → f x ≡ false → list_all f xs ≡ false
all_item f [] k x lt is h = absurd (omega arith)
all_item f (y ∷ xs) zero x lt is h = ap (λ b. b && list_all f xs) (ap f (sym is) ∙ h)
all_item f (y ∷ xs) (suc k) x lt is h = ap (λ b. f y && b) (all_item f xs k x (omega arith) is h) ∙ and_false (f y)
  where
    and_false : (a : Bool) → (a && false) ≡ false
    and_false true = refl
    and_false false = refl

-- one more number
pub among_more : (xs : List ℕ) (k n : ℕ) → k < length xs → list_any (nat_eq n) (take (k + 1) xs) ≡ (list_any (nat_eq n) (take k xs) || nat_eq n (get_or xs k 0))
among_more xs k n lt =
    ap (λ ys. list_any (nat_eq n) ys) (take_more xs k 0 lt)
    ∙ list_any-append (nat_eq n) (take k xs) (get_or xs k 0 ∷ []) ∙ or_nothing (list_any (nat_eq n) (take k xs)) (nat_eq n (get_or xs k 0))

pub or_map : (a b d : Bool) → (a ≡ true → d ≡ true) → (a || b) ≡ true → (d || b) ≡ true
or_map true b d f h = ap (λ k. k || b) (f refl)
or_map false true true f h = refl
or_map false true false f h = refl
or_map false false d f h = absurd (false≢true h)

pub or_cases : (X : Type 0) (a b : Bool) → (a || b) ≡ true → (a ≡ true → X) → (b ≡ true → X) → X
or_cases X true b h f g = f refl
or_cases X false true h f g = g refl
or_cases X false false h f g = absurd (false≢true h)

pub among_item : (xs : List ℕ) (k : ℕ) → k < length xs → list_any (nat_eq (get_or xs k 0)) xs ≡ true
among_item xs k lt = any_item (nat_eq (get_or xs k 0)) xs k (get_or xs k 0) lt (get_or_default_zero_sym xs k lt) (eq-eqb (get_or xs k 0) (get_or xs k 0) refl)
  where
    get_or_default_zero_sym : (ys : List ℕ) (i : ℕ) → i < length ys → get_or ys i 0 ≡ get_or ys i (get_or ys i 0)
    get_or_default_zero_sym ys i lt = sym (get_or_default_zero ys i (get_or ys i 0) lt)

-- a list one of whose items is put in the place of another, which passes more
pub any_set : {X : Type 0} (f : X → Bool) (xs : List X) (k : ℕ) (y d : X) (b : Bool) → k < length xs → f y ≡ (f (get_or xs k d) || b) → list_any f (set xs k y) ≡ (list_any f xs || b)
any_set f [] k y d b lt e = absurd (omega arith)
any_set f (x ∷ xs) zero y d b lt e = ap (λ a. a || list_any f xs) e ∙ swap (f x) b (list_any f xs)
  where
    swap : (a b c : Bool) → ((a || b) || c) ≡ ((a || c) || b)
    swap true b c = refl
    swap false true true = refl
    swap false true false = refl
    swap false false true = refl
    swap false false false = refl
any_set f (x ∷ xs) (suc k) y d b lt e = ap (λ a. f x || a) (any_set f xs k y d b (omega arith) e) ∙ group (f x) (list_any f xs) b
  where
    group : (a c b : Bool) → (a || (c || b)) ≡ ((a || c) || b)
    group true c b = refl
    group false c b = refl

-- a number behind the others
pub among_end : (xs : List ℕ) (x n : ℕ) → list_any (nat_eq n) (xs ++ x ∷ []) ≡ (list_any (nat_eq n) xs || nat_eq n x)
among_end xs x n = list_any-append (nat_eq n) xs (x ∷ []) ∙ or_nothing (list_any (nat_eq n) xs) (nat_eq n x)
