-- Lists that are found by their names.
use Rattle.std.proofs.Common.{◌≡◌, ◌≢◌, ℕ, suc, ◌<◌, ◌^◌, true, false, ◌||◌, not, Some, List, [], ◌∷◌, refl, sym, ◌∙◌, ap, arith, length, get_or}
use Rattle.std.proofs.lemmas.Bool.{and_from, cond-false, cond-true, not_from_false}
use Rattle.std.proofs.lemmas.Slice.Eq.{bytes_eq-Decides}
use Rattle.std.specs.List.{list_any, AllPairs}
use Rattle.std.specs.Str.{bytes_eq}
use Rattle.fws_ios.specs.declared.config.IosList.{IosList}
use Rattle.fws_ios.specs.Soundness.{are_apart}
use Rattle.fws_ios.specs.Walk.{list_named}

-- lists that bear the names of addresses
abbrev pub AreNamed : (ℕ → List ℕ) → List ℕ → List IosList → Type 0
AreNamed name [] [] = Unit {0}
AreNamed name [] (l ∷ ls) = ⊥
AreNamed name (a ∷ given) [] = ⊥
AreNamed name (a ∷ given) (l ∷ ls) = (a < 2 ^ 32) × (l.name ≡ name a) × AreNamed name given ls

-- names of different addresses differ
abbrev pub TellsApart : (ℕ → List ℕ) → Type 0
TellsApart name = (a b : ℕ) → a < 2 ^ 32 → b < 2 ^ 32 → a ≢ b → bytes_eq (name a) (name b) ≡ false

-- an address is none of these
abbrev pub IsNoneOf : ℕ → List ℕ → Type 0
IsNoneOf a [] = Unit {0}
IsNoneOf a (b ∷ given) = (a ≢ b) × IsNoneOf a given

-- no address comes twice
abbrev pub AreDistinct : List ℕ → Type 0
AreDistinct [] = Unit {0}
AreDistinct (a ∷ given) = IsNoneOf a given × AreDistinct given

none_of : (a : ℕ) (given : List ℕ) → ((k : ℕ) → k < length given → a ≢ get_or given k 0) → IsNoneOf a given
none_of a [] h = tt
none_of a (b ∷ given) h = (h 0 (omega arith), none_of a given (λ k lt. h (suc k) (omega (arith, lt))))

pub distinct_of : (given : List ℕ) → AllPairs (λ (x y : ℕ). x ≢ y) given → AreDistinct given
distinct_of [] h = tt
distinct_of (a ∷ given) h = (
  none_of a given (λ k lt. h 0 (suc k) 0 (omega arith) (omega (arith, lt))),
  distinct_of given (λ i j d below lt. h (suc i) (suc j) d (omega (arith, below)) (omega (arith, lt))),
)

-- each list is found by its name
abbrev pub AreFound : (ℕ → List ℕ) → List IosList → List ℕ → List IosList → Type 0
AreFound name lists [] [] = Unit {0}
AreFound name lists [] (l ∷ ls) = ⊥
AreFound name lists (a ∷ given) [] = ⊥
AreFound name lists (a ∷ given) (l ∷ ls) = (list_named (name a) lists ≡ Some l) × AreFound name lists given ls

-- where another list stands ahead
found_behind : (name : ℕ → List ℕ) → TellsApart name → (first : IosList) (lists : List IosList) (a : ℕ) → a < 2 ^ 32 → first.name ≡ name a → (given : List ℕ) (ls : List IosList)
    → IsNoneOf a given → AreNamed name given ls → AreFound name lists given ls → AreFound name (first ∷ lists) given ls
found_behind name apart first lists a low is [] [] none named found = tt
found_behind name apart first lists a low is [] (l ∷ ls) none named found = absurd named
found_behind name apart first lists a low is (b ∷ given) [] none named found = absurd named
found_behind name apart first lists a low is (b ∷ given) (l ∷ ls) none named found =
    let other : bytes_eq first.name (name b) ≡ false = ap (λ n. bytes_eq n (name b)) is ∙ apart a b low named.0 none.0 in (
      cond-false (bytes_eq first.name (name b)) (Some first) (list_named (name b) lists) other ∙ found.0,
      found_behind name apart first lists a low is given ls none.1 named.2 found.1,
    )

pub all_found : (name : ℕ → List ℕ) → TellsApart name → (given : List ℕ) (ls : List IosList) → AreDistinct given → AreNamed name given ls → AreFound name ls given ls
all_found name apart [] [] distinct named = tt
all_found name apart [] (l ∷ ls) distinct named = absurd named
all_found name apart (a ∷ given) [] distinct named = absurd named
all_found name apart (a ∷ given) (l ∷ ls) distinct named = (
  cond-true (bytes_eq l.name (name a)) (Some l) (list_named (name a) ls) ((bytes_eq-Decides l.name (name a)).1 named.1),
  found_behind name apart l ls a named.0 named.1 given ls distinct.0 named.2 (all_found name apart given ls distinct.1 named.2),
)

-- and in other lists that have the same ones by these names
pub found_there : (name : ℕ → List ℕ) (here there : List IosList) → ((a : ℕ) → list_named (name a) there ≡ list_named (name a) here) → (given : List ℕ) (ls : List IosList)
    → AreFound name here given ls → AreFound name there given ls
found_there name here there same [] [] found = tt
found_there name here there same [] (l ∷ ls) found = found
found_there name here there same (a ∷ given) [] found = found
found_there name here there same (a ∷ given) (l ∷ ls) found = (same a ∙ found.0, found_there name here there same given ls found.1)

-- no two of them have one name
none_named : (name : ℕ → List ℕ) → TellsApart name → (first : IosList) (a : ℕ) → a < 2 ^ 32 → first.name ≡ name a → (given : List ℕ) (ls : List IosList)
    → IsNoneOf a given → AreNamed name given ls → list_any (λ (other : IosList). bytes_eq other.name first.name) ls ≡ false
none_named name apart first a low is [] [] none named = refl
none_named name apart first a low is [] (l ∷ ls) none named = absurd named
none_named name apart first a low is (b ∷ given) [] none named = absurd named
none_named name apart first a low is (b ∷ given) (l ∷ ls) none named =
    let ne : b ≢ a = λ e. none.0 (sym e) in
    let other : bytes_eq l.name first.name ≡ false
    = ap (λ n. bytes_eq n first.name) named.1 ∙ ap (λ n. bytes_eq (name b) n) is ∙ apart b a named.0 low ne in
    ap (λ x. x || list_any (λ (o : IosList). bytes_eq o.name first.name) ls) other ∙ none_named name apart first a low is given ls none.1 named.2

pub all_apart : (name : ℕ → List ℕ) → TellsApart name → (given : List ℕ) (ls : List IosList) → AreDistinct given → AreNamed name given ls → are_apart ls ≡ true
all_apart name apart [] [] distinct named = refl
all_apart name apart [] (l ∷ ls) distinct named = absurd named
all_apart name apart (a ∷ given) [] distinct named = absurd named
all_apart name apart (a ∷ given) (l ∷ ls) distinct named =
    and_from (not (list_any (λ (other : IosList). bytes_eq other.name l.name) ls)) (are_apart ls)
    (not_from_false (list_any (λ (other : IosList). bytes_eq other.name l.name) ls) (none_named name apart l a named.0 named.1 given ls distinct.0 named.2))
    (all_apart name apart given ls distinct.1 named.2)
