-- Lists whose items are pairwise different.
use Rattle.std.proofs.Common.{◌≡◌, ◌≢◌, ℕ, suc, ◌<◌, Bool, false, List, ◌∷◌, inl, inr, Some, get_or, slice_get, ap, arith}
use Rattle.std.proofs.lemmas.Bool.{cases_order, both_ways}
use Rattle.std.proofs.lemmas.Map.Keys.{apart_from_distinct}
use Rattle.std.proofs.lemmas.Option.{get_or_from_slice_get, slice_get_within, slice_get-get_or}
use Rattle.std.proofs.lemmas.List.Elements.{recursion_from_All}
use Rattle.std.specs.Cmp.{IsEquivalence}
use Rattle.std.specs.List.{IsDistinct, AllByRecursion}
use Rattle.fws_tree.specs.Building.{AreDifferent}

-- where no key equals a later one, none stands at two places
pub different : {X : Type 0} (eq : X → X → Bool) → IsEquivalence eq → (xs : List X) → IsDistinct eq xs → AreDifferent xs
different eq laws xs distinct i j x a b = elim (cases_order i j) [
  | inl e ↦ e
  | inr d ↦ elim d [
    | inl lt ↦ absurd (both_ways (eq x x) (apart i j lt a b) (laws.refl x))
    | inr gt ↦ absurd (both_ways (eq x x) (apart j i gt b a) (laws.refl x))
  ]
]
  where
    apart : (m n : ℕ) → m < n → slice_get xs m ≡ Some x → slice_get xs n ≡ Some x → eq x x ≡ false
    apart m n lt p q =
        let e : eq (get_or xs m x) (get_or xs n x) ≡ false = apart_from_distinct eq xs m n x distinct lt (slice_get_within xs n x q) in
        rw (get_or_from_slice_get xs m x x p, get_or_from_slice_get xs n x x q) at e

-- the first item differs from each later one
pub different-head : {X : Type 0} (x : X) (xs : List X) → AreDifferent (x ∷ xs) → AllByRecursion (λ y. x ≢ y) xs
different-head x xs d = recursion_from_All (λ y. x ≢ y) xs (λ k e lt same.
    let z : 0 ≡ suc k = d 0 (suc k) (get_or xs k e) (ap Some same) (slice_get-get_or xs k e lt) in omega arith)

pub different-tail : {X : Type 0} (x : X) (xs : List X) → AreDifferent (x ∷ xs) → AreDifferent xs
different-tail x xs d i j y a b = let z : suc i ≡ suc j = d (suc i) (suc j) y a b in omega arith
