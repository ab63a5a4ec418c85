-- Decision trees over the fields of a point, and when they are reduced.
use Rattle.std.specs.Prelude.{◌≡◌, ◌≢◌, ℕ, suc, ◌≤◌, Bool, true, false, ◌&&◌, not, nat_eq, nat_le, Option, Some, None, List, [], ◌∷◌, if◌then◌else◌, MatchBool}
use Rattle.fws_iv.specs.declared.iv.Iv.{Iv}
use Rattle.fws_iv.specs.Ivs.{has, IsRegular}
use Rattle.fws_box.specs.Sides.{IsWithin}

-- a tree is a leaf, or it cuts a field: each kid has a set of that field's values and the tree for them
mutual
  pub data Plain (L : Type 0) : Type 0 where
    leaf : L → Plain L
    cut : ℕ → Kids L → Plain L

  pub data Kids (L : Type 0) : Type 0 where
    none : Kids L
    kid : List Iv → Plain L → Kids L → Kids L

-- the tree of the first kid that has x; a cut without kids where there is none
abbrev pub kid_at : {L : Type 0} → Kids L → ℕ → Plain L
kid_at none x = cut 0 none
kid_at (kid s t ks) x = if has s x then t else kid_at ks x

-- what a leaf holds
abbrev pub leaf_of : {L : Type 0} → Plain L → Option L
leaf_of (leaf a) = Some a
leaf_of (cut f ks) = None

-- the tree that is left at value x of field f
abbrev pub branch : {L : Type 0} → ℕ → Plain L → ℕ → Plain L
branch f (leaf a) x = leaf a
branch f (cut g ks) x = if nat_eq g f then kid_at ks x else cut g ks

-- the value at a point whose values are those of the fields from f on
abbrev pub value_from : {L : Type 0} → ℕ → Plain L → List ℕ → Option L
value_from f t [] = leaf_of t
value_from f t (x ∷ p) = value_from (suc f) (branch f t x) p

-- the value of a tree at a point
abbrev pub value : {L : Type 0} → Plain L → List ℕ → Option L
value t p = value_from 0 t p

abbrev pub EachKid : {L : Type 0} → (Plain L → Type 0) → Kids L → Type 0
EachKid P none = Unit {0}
EachKid P (kid s t ks) = P t × EachKid P ks

-- the kids part the domain: the first has a set of it with the least value that is left, its tree is not that of a
-- later one, and the later ones part the rest
abbrev pub Parts : {L : Type 0} → (ℕ → Bool) → Kids L → Type 0
Parts domain none = (x : ℕ) → domain x ≡ false
Parts domain (kid s t ks) = IsRegular s × ((x : ℕ) → has s x ≡ true → domain x ≡ true)
    × ((least : ℕ) × (has s least ≡ true) × ((x : ℕ) → domain x ≡ true → least ≤ x))
    × EachKid (λ u. t ≢ u) ks × Parts (λ x. domain x && not (has s x)) ks

-- at least two kids
abbrev pub AreMany : {L : Type 0} → Kids L → Type 0
AreMany none = ⊥
AreMany (kid s t none) = ⊥
AreMany (kid s t (kid r u ks)) = Unit {0}

-- reduced over the fields from f on, whose tops these are: a leaf, or a cut of one of them into two or more kids that
-- part its range, ordered by least value, with pairwise different reduced trees over the later fields
abbrev pub IsReducedFrom : {L : Type 0} → ℕ → List ℕ → Plain L → Type 0
IsReducedFrom f tops (leaf a) = Unit {0}
IsReducedFrom f [] (cut g ks) = ⊥
IsReducedFrom f (top ∷ tops) (cut g ks) = MatchBool (nat_eq g f)
    (AreMany ks × Parts (λ x. nat_le x top) ks × EachKid (IsReducedFrom (suc f) tops) ks)
    (IsReducedFrom (suc f) tops (cut g ks))

-- reduced over all the fields
abbrev pub IsReduced : {L : Type 0} → List ℕ → Plain L → Type 0
IsReduced tops t = IsReducedFrom 0 tops t

-- two reduced trees over the same tops with the same value at each point are equal
abbrev pub OneReducedTree : Type 0 → Type 0
OneReducedTree L = (tops : List ℕ) (t u : Plain L) → IsReduced tops t → IsReduced tops u
    → ((p : List ℕ) → IsWithin tops p → value t p ≡ value u p) → t ≡ u

-- a reduced tree has a value at each point within its tops
abbrev pub HasValues : Type 0 → Type 0
HasValues L = (tops : List ℕ) (t : Plain L) → IsReduced tops t → (p : List ℕ) → IsWithin tops p → (a : L) × (value t p ≡ Some a)
