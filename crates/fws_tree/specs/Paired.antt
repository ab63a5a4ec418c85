-- Pairs of places that were met, and their leaves.
use Rattle.std.specs.Prelude.{◌≡◌, ℕ, ◌-◌, ◌<◌, Some, List, [], ◌++◌, length, slice_get, slice_index}
use Rattle.std.proofs.Common.{◌∷◌, zero, suc, sym, ◌∙◌, ap}
use Rattle.std.proofs.lemmas.List.{append_assoc, append-nil}
use Rattle.fws_box.specs.Sides.{IsWithin}
use Rattle.fws_tree.specs.Building.{Extends}
use Rattle.fws_tree.specs.declared.node.Node.{Node}
use Rattle.fws_tree.specs.declared.store.Cell.{Cell}
use Rattle.fws_tree.specs.Held.{held_at}
use Rattle.fws_tree.specs.Plain.{value}
use Rattle.fws_tree.specs.Shared.{subtree_of}

-- the leaf of a pair of places stands at a place
abbrev pub IsLeafOf : {L M : Type 0} → List L → List M → ℕ × ℕ → List (L × M) → ℕ → Type 0
IsLeafOf {L} {M} first second pair leaves place = (a : L) (b : M) → slice_get first pair.0 ≡ Some a → slice_get second pair.1 ≡ Some b → slice_get leaves place ≡ Some (a, b)

-- the leaves of the first pairs stand at their places
pub record AreLeavesOf {L M : Type 0} (first : List L) (second : List M) (pairs : List (ℕ × ℕ)) (leaves : List (L × M)) (places : List ℕ) (n : ℕ) : Type 0 where
  pub many : length places ≡ n
  pub there : (k : ℕ) (pair : ℕ × ℕ) → k < n → slice_get pairs k ≡ Some pair → IsLeafOf first second pair leaves (slice_index places k)

-- the number is a place of the leaf that a tree of nodes has at a point
abbrev pub IsPlaceAt : {L : Type 0} → List L → List Node → List ℕ → ℕ → Type 0
IsPlaceAt {L} leaves nodes p n = (a : L) × (value (subtree_of leaves nodes (length nodes - 1)) p ≡ Some a) × (slice_get leaves n ≡ Some a)

-- the cell holds, at points within the tops, the place of the leaf that the tree has there
abbrev pub HoldsPlaces : {L : Type 0} → List ℕ → List L → List Node → List Cell → ℕ → Type 0
HoldsPlaces tops leaves nodes cells r = (p : List ℕ) → IsWithin tops p → IsPlaceAt leaves nodes p (held_at cells r p)

-- the cell holds, at points within the tops, the number of the pair of the places of the leaves that two trees have there
abbrev pub HoldsPairs : {L M : Type 0} → List ℕ → List L → List Node → List M → List Node → List (ℕ × ℕ) → List Cell → ℕ → Type 0
HoldsPairs tops first nodes second others pairs cells r = (p : List ℕ) → IsWithin tops p
    → (x : ℕ) × (y : ℕ) × (slice_get pairs (held_at cells r p) ≡ Some (x, y)) × IsPlaceAt first nodes p x × IsPlaceAt second others p y

pub pairs_same : (xs : List (ℕ × ℕ)) → Extends xs xs
pairs_same xs = ([], sym (append-nil xs))

pub pairs_then : (xs ys zs : List (ℕ × ℕ)) → Extends xs ys → Extends ys zs → Extends xs zs
pairs_then xs ys zs a b = (a.0 ++ b.0, b.1 ∙ ap (λ t. t ++ b.0) a.1 ∙ append_assoc xs a.0 b.0)

front : (xs ys : List (ℕ × ℕ)) (n : ℕ) (x : ℕ × ℕ) → slice_get xs n ≡ Some x → slice_get (xs ++ ys) n ≡ Some x
front [] ys n x e = absurd (cc)
front (y ∷ xs) ys zero x e = e
front (y ∷ xs) ys (suc n) x e = front xs ys n x e

pub pairs_kept : (xs ys : List (ℕ × ℕ)) → Extends xs ys → (x y z : ℕ) → slice_get xs z ≡ Some (x, y) → slice_get ys z ≡ Some (x, y)
pairs_kept xs ys e x y z h = ap (λ zs. slice_get zs z) e.1 ∙ front xs e.0 z (x, y) h
