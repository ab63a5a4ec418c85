-- Items of lists by their places.
use Rattle.std.proofs.Common.{◌≡◌, ℕ, zero, suc, ◌+◌, ◌<◌, Bool, true, false, cond, not, slice_get, Some, None, position, List, [], ◌∷◌, length, map, All, arith, refl, sym, ap, ◌∙◌, subst}
use Rattle.std.proofs.lemmas.Bool.{false≢true, lt-ltb}
use Rattle.std.proofs.lemmas.List.Elements.{All-head, All-tail}
use Rattle.std.specs.List.{position_or_len}

pub some_is : {X : Type 0} {x y : X} → Some x ≡ Some y → x ≡ y
some_is h = cc

pub none_is : {X : Type 0} {x : X} → None ≡ Some x → ⊥
none_is h = cc

pub all_got : {X : Type 0} (P : X → Type 0) (xs : List X) (i : ℕ) (x : X) → All P xs → slice_get xs i ≡ Some x → P x
all_got P [] i x all is = absurd (none_is is)
all_got P (y ∷ xs) zero x all is = subst P (some_is is) (All-head P y xs all)
all_got P (y ∷ xs) (suc i) x all is = all_got P xs i x (All-tail P y xs all) is

-- an item of a list that is made of another one's
pub map_got : {X Y : Type 0} (f : X → Y) (xs : List X) (i : ℕ) (y : Y) → slice_get (map f xs) i ≡ Some y → (x : X) × (slice_get xs i ≡ Some x) × (f x ≡ y)
map_got f [] i y is = absurd (none_is is)
map_got f (x ∷ xs) zero y is = (x, refl, some_is is)
map_got f (x ∷ xs) (suc i) y is = map_got f xs i y is

pub got_below : {X : Type 0} (xs : List X) (i : ℕ) (x : X) → slice_get xs i ≡ Some x → i < length xs
got_below [] i x is = absurd (none_is is)
got_below (y ∷ xs) zero x is = omega arith
got_below (y ∷ xs) (suc i) x is = let le = got_below xs i x is in omega (arith, le)

-- the first item that passes
abbrev Passing : {X : Type 0} → (X → Bool) → List X → ℕ → Type 0
Passing {X} p xs at = (y : X) × (slice_get xs at ≡ Some y) × (p y ≡ true)

by_first : {X : Type 0} (p : X → Bool) (y : X) (xs : List X) (x : X) → p x ≡ true → ((j : ℕ) → slice_get xs j ≡ Some x → Passing p xs (position_or_len p xs))
    → (here : Bool) → p y ≡ here → (j : ℕ) → slice_get (y ∷ xs) j ≡ Some x → Passing p (y ∷ xs) (position_or_len p (y ∷ xs))
by_first p y xs x passes later true here j at = (y, ap (λ b. slice_get (y ∷ xs) (cond (not b) (1 + position_or_len p xs) 0)) here, here)
by_first p y xs x passes later false fails zero at = absurd (false≢true (sym fails ∙ ap p (some_is at) ∙ passes))
by_first p y xs x passes later false fails (suc j) at =
    let found = later j at in
    let next : 1 + position_or_len p xs ≡ suc (position_or_len p xs) = omega arith in
    (found.0, ap (λ b. slice_get (y ∷ xs) (cond (not b) (1 + position_or_len p xs) 0)) fails ∙ ap (slice_get (y ∷ xs)) next ∙ found.1, found.2)

first_passes : {X : Type 0} (p : X → Bool) (xs : List X) (i : ℕ) (x : X) → slice_get xs i ≡ Some x → p x ≡ true → Passing p xs (position_or_len p xs)
first_passes p [] i x is passes = absurd (none_is is)
first_passes p (y ∷ xs) i x is passes = by_first p y xs x passes (λ j at. first_passes p xs j x at passes) (p y) refl i is

pub position_found : {X : Type 0} (p : X → Bool) (xs : List X) (i : ℕ) (x : X) → slice_get xs i ≡ Some x → p x ≡ true
    → (j : ℕ) × (position p xs ≡ Some j) × ((y : X) × (slice_get xs j ≡ Some y) × (p y ≡ true))
position_found p xs i x is passes =
    let first = first_passes p xs i x is passes in
    let below = got_below xs (position_or_len p xs) first.0 first.1 in (
      position_or_len p xs,
      ap (λ b. cond b (Some (position_or_len p xs)) None) (lt-ltb (position_or_len p xs) (length xs) below),
      first,
    )
