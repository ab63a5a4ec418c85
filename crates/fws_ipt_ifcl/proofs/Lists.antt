-- Lists of what stands behind the diagram's own chains.
use Rattle.std.proofs.Common.{◌≡◌, suc, Bool, true, false, ◌||◌, List, [], ◌∷◌, map, Contains, arith, refl, ap, ◌∙◌, ⊎_elim}
use Rattle.std.proofs.lemmas.Bool.{false≢true, or_cases, or_left, or_right}
use Rattle.std.specs.List.{list_any}

-- a test that holds of some item holds of one that stands there
pub any_found : {X : Type 0} (test : X → Bool) (xs : List X) → list_any test xs ≡ true → (x : X) × Contains xs x × (test x ≡ true)
any_found test [] is = absurd (false≢true is)
any_found test (y ∷ ys) is =
    ⊎_elim
    (λ here. (y, (0, omega arith, refl), here))
    (λ later. let found = any_found test ys later in
    let at = found.1 in
    (found.0, (suc at.0, omega (arith, at.1), at.2), found.2))
    (or_cases (test y) (list_any test ys) is)

-- a weaker test
pub any_weaker : {X : Type 0} (test other : X → Bool) → ((x : X) → test x ≡ true → other x ≡ true) → (xs : List X) → list_any test xs ≡ true → list_any other xs ≡ true
any_weaker test other step [] is = is
any_weaker test other step (x ∷ xs) is =
    ⊎_elim
    (λ here. or_left (other x) (list_any other xs) (step x here))
    (λ later. or_right (other x) (list_any other xs) (any_weaker test other step xs later))
    (or_cases (test x) (list_any test xs) is)

-- a test of what a list is mapped to
pub any_mapped : {X Y : Type 0} (f : X → Y) (test : Y → Bool) (other : X → Bool) → ((x : X) → test (f x) ≡ other x) → (xs : List X) → list_any test (map f xs) ≡ list_any other xs
any_mapped f test other same [] = refl
any_mapped f test other same (x ∷ xs) =
    ap (λ b. b || list_any test (map f xs)) (same x) ∙ ap (λ b. other x || b) (any_mapped f test other same xs)

-- two tests that agree
pub any_same : {X : Type 0} (test other : X → Bool) → ((x : X) → test x ≡ other x) → (xs : List X) → list_any test xs ≡ list_any other xs
any_same test other same [] = refl
any_same test other same (x ∷ xs) = ap (λ b. b || list_any test xs) (same x) ∙ ap (λ b. other x || b) (any_same test other same xs)

pub map_mapped : {X Y Z : Type 0} (f : X → Y) (g : Y → Z) (h : X → Z) → ((x : X) → g (f x) ≡ h x) → (xs : List X) → map g (map f xs) ≡ map h xs
map_mapped f g h same [] = refl
map_mapped f g h same (x ∷ xs) = ap (λ y. y ∷ map g (map f xs)) (same x) ∙ ap (λ ys. h x ∷ ys) (map_mapped f g h same xs)

-- the first list has an item
abbrev pub has_any : {X : Type 0} → List X → Bool
has_any [] = false
has_any (x ∷ xs) = true

pub has_mapped : {X Y : Type 0} (f : X → Y) (xs : List X) → has_any (map f xs) ≡ has_any xs
has_mapped f [] = refl
has_mapped f (x ∷ xs) = refl
