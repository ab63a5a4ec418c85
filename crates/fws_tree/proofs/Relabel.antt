-- A tree over places of leaves, with the leaves in their place: its values, and that it is reduced as before.
use Rattle.std.proofs.Common.{◌≡◌, ◌≢◌, ℕ, suc, ◌<◌, Bool, true, false, ◌&&◌, not, cond, Option, Some, None, List, [], ◌∷◌, inl, inr, refl, sym, ◌∙◌, ap, subst, arith, length}
use Rattle.std.proofs.lemmas.Bool.{cases_Bool, MatchBool-at_true, MatchBool-at_false}
use Rattle.std.proofs.lemmas.Option.{slice_get_cases}
use Rattle.std.specs.Prelude.{nat_le, nat_eq, slice_get, option_and_then}
use Rattle.fws_iv.specs.Ivs.{has}
use Rattle.fws_tree.specs.Plain.{Plain, leaf, cut, Kids, none, kid, kid_at, leaf_of, branch, value_from, value, EachKid, Parts, AreMany, IsReducedFrom, IsReduced}
use Rattle.fws_tree.specs.Nodes.{named_leaf, relabel, relabel_kids}
use Rattle.fws_tree.specs.Building.{AreDifferent}
use Rattle.fws_tree.specs.Tree.{AreLeavesBelow, AreKidLeavesBelow}

-- ---- values

same_both : {A : Type 0} (b : Bool) (x : A) → cond b x x ≡ x
same_both true x = refl
same_both false x = refl

branch-named : {L : Type 0} (f x : ℕ) (o : Option L) → branch f (named_leaf o) x ≡ named_leaf o
branch-named f x (Some a) = refl
branch-named f x None = same_both (nat_eq 0 f) (cut 0 none)

leaf_of-named : {L : Type 0} (o : Option L) → leaf_of (named_leaf o) ≡ o
leaf_of-named (Some a) = refl
leaf_of-named None = refl

kid_at-relabel : {L : Type 0} (leaves : List L) (ks : Kids ℕ) (x : ℕ) → kid_at (relabel_kids leaves ks) x ≡ relabel leaves (kid_at ks x)
kid_at-relabel leaves none x = refl
kid_at-relabel leaves (kid s t ks) x = elim (has s x)
    as (λ b. cond b (relabel leaves t) (kid_at (relabel_kids leaves ks) x) ≡ relabel leaves (cond b t (kid_at ks x)))
    [ true ↦ refl | false ↦ kid_at-relabel leaves ks x ]

branch-relabel : {L : Type 0} (leaves : List L) (f : ℕ) (t : Plain ℕ) (x : ℕ) → branch f (relabel leaves t) x ≡ relabel leaves (branch f t x)
branch-relabel leaves f (leaf n) x = branch-named f x (slice_get leaves n)
branch-relabel leaves f (cut g ks) x = elim (nat_eq g f)
    as (λ b. cond b (kid_at (relabel_kids leaves ks) x) (cut g (relabel_kids leaves ks)) ≡ relabel leaves (cond b (kid_at ks x) (cut g ks)))
    [ true ↦ kid_at-relabel leaves ks x | false ↦ refl ]

leaf_of-relabel : {L : Type 0} (leaves : List L) (t : Plain ℕ) → leaf_of (relabel leaves t) ≡ option_and_then (slice_get leaves) (leaf_of t)
leaf_of-relabel leaves (leaf n) = leaf_of-named (slice_get leaves n)
leaf_of-relabel leaves (cut f ks) = refl

value_from-relabel : {L : Type 0} (leaves : List L) (f : ℕ) (t : Plain ℕ) (p : List ℕ) → value_from f (relabel leaves t) p ≡ option_and_then (slice_get leaves) (value_from f t p)
value_from-relabel leaves f t [] = leaf_of-relabel leaves t
value_from-relabel leaves f t (x ∷ p) = ap (λ u. value_from (suc f) u p) (branch-relabel leaves f t x) ∙ value_from-relabel leaves (suc f) (branch f t x) p

-- the value is the leaf at the place that is the value of the tree of places
pub value-relabel : {L : Type 0} (leaves : List L) (t : Plain ℕ) (p : List ℕ) → value (relabel leaves t) p ≡ option_and_then (slice_get leaves) (value t p)
value-relabel leaves t p = value_from-relabel leaves 0 t p

-- ---- reducedness

-- there is a leaf at each place below the number of leaves
leaf_there : {L : Type 0} (leaves : List L) (n : ℕ) → n < length leaves → (a : L) × (slice_get leaves n ≡ Some a)
leaf_there leaves n lt = elim (slice_get_cases leaves n).1 [ inl w ↦ (w.0, w.2) | inr w ↦ absurd (omega (arith, w)) ]

named_same : {L : Type 0} (a b : L) → leaf a ≡ leaf b → a ≡ b
named_same a b e = cc

mutual
  pub relabel_inj : {L : Type 0} (leaves : List L) → AreDifferent leaves → (t u : Plain ℕ) → AreLeavesBelow (length leaves) t → AreLeavesBelow (length leaves) u
      → relabel leaves t ≡ relabel leaves u → t ≡ u
  relabel_inj leaves d (leaf m) (leaf n) h g e =
      let a = leaf_there leaves m h in
      let b = leaf_there leaves n g in
      let s : leaf a.0 ≡ leaf b.0 = sym (ap named_leaf a.1) ∙ e ∙ ap named_leaf b.1 in
      ap leaf (d m n a.0 a.1 (b.1 ∙ ap Some (sym (named_same a.0 b.0 s))))
  relabel_inj leaves d (leaf m) (cut g js) h k e =
      let a = leaf_there leaves m h in
      let s : leaf a.0 ≡ cut g (relabel_kids leaves js) = sym (ap named_leaf a.1) ∙ e in absurd (cc)
  relabel_inj leaves d (cut f ks) (leaf n) h g e =
      let b = leaf_there leaves n g in
      let s : cut f (relabel_kids leaves ks) ≡ leaf b.0 = e ∙ ap named_leaf b.1 in absurd (cc)
  relabel_inj leaves d (cut f ks) (cut g js) h k e =
      let p : f ≡ g = cc in
      let q : relabel_kids leaves ks ≡ relabel_kids leaves js = cc in
      ap (λ z. cut z ks) p ∙ ap (cut g) (kids_inj leaves d ks js h k q)

  kids_inj : {L : Type 0} (leaves : List L) → AreDifferent leaves → (ks js : Kids ℕ) → AreKidLeavesBelow (length leaves) ks → AreKidLeavesBelow (length leaves) js
      → relabel_kids leaves ks ≡ relabel_kids leaves js → ks ≡ js
  kids_inj leaves d none none h g e = refl
  kids_inj leaves d none (kid r u js) h g e = absurd (cc)
  kids_inj leaves d (kid s t ks) none h g e = absurd (cc)
  kids_inj leaves d (kid s t ks) (kid r u js) h g e =
      let p : s ≡ r = cc in
      let q : relabel leaves t ≡ relabel leaves u = cc in
      let o : relabel_kids leaves ks ≡ relabel_kids leaves js = cc in
      ap (λ z. kid z t ks) p ∙ ap (λ z. kid r z ks) (relabel_inj leaves d t u h.0 g.0 q) ∙ ap (λ z. kid r u z) (kids_inj leaves d ks js h.1 g.1 o)

-- what holds of each kid, and follows after relabelling, holds of each kid relabelled
each-relabel : {L : Type 0} (leaves : List L) (n : ℕ) (P : Plain ℕ → Type 0) (Q : Plain L → Type 0) → ((t : Plain ℕ) → AreLeavesBelow n t → P t → Q (relabel leaves t))
    → (ks : Kids ℕ) → AreKidLeavesBelow n ks → EachKid P ks → EachKid Q (relabel_kids leaves ks)
each-relabel leaves n P Q step none h e = tt
each-relabel leaves n P Q step (kid s t ks) h e = (step t h.0 e.0, each-relabel leaves n P Q step ks h.1 e.1)

many-relabel : {L : Type 0} (leaves : List L) (ks : Kids ℕ) → AreMany ks → AreMany (relabel_kids leaves ks)
many-relabel leaves none m = m
many-relabel leaves (kid s t none) m = m
many-relabel leaves (kid s t (kid r u ks)) m = tt

parts-relabel : {L : Type 0} (leaves : List L) → AreDifferent leaves → (domain : ℕ → Bool) (ks : Kids ℕ) → AreKidLeavesBelow (length leaves) ks → Parts domain ks
    → Parts domain (relabel_kids leaves ks)
parts-relabel leaves d domain none h parts = parts
parts-relabel leaves d domain (kid s t ks) h parts = (
  parts.0,
  parts.1,
  parts.2,
  each-relabel leaves (length leaves) (λ u. t ≢ u) (λ u. relabel leaves t ≢ u) (λ u g ne e. ne (relabel_inj leaves d t u h.0 g e)) ks h.1 parts.3,
  parts-relabel leaves d (λ x. domain x && not (has s x)) ks h.1 parts.4,
)

reduced_from-relabel : {L : Type 0} (leaves : List L) → AreDifferent leaves → (tops : List ℕ) (f : ℕ) (t : Plain ℕ) → AreLeavesBelow (length leaves) t → IsReducedFrom f tops t
    → IsReducedFrom f tops (relabel leaves t)
reduced_from-relabel leaves d tops f (leaf n) h r = let a = leaf_there leaves n h in subst (λ o. IsReducedFrom f tops (named_leaf o)) (sym a.1) tt
reduced_from-relabel leaves d [] f (cut g ks) h r = r
reduced_from-relabel leaves d (top ∷ tops) f (cut g ks) h r = elim (cases_Bool (nat_eq g f)) [
  | inl e ↦ let m = MatchBool-at_true _ _ e r in rw e (
    many-relabel leaves ks m.0,
    parts-relabel leaves d (λ x. nat_le x top) ks h m.1,
    each-relabel leaves (length leaves) (IsReducedFrom (suc f) tops) (IsReducedFrom (suc f) tops) (λ t g q. reduced_from-relabel leaves d tops (suc f) t g q) ks h m.2,
  )
  | inr e ↦ let m = MatchBool-at_false _ _ e r in rw e (reduced_from-relabel leaves d tops (suc f) (cut g ks) h m)
]

-- relabelling by leaves that differ keeps a tree reduced
pub reduced-relabel : {L : Type 0} (leaves : List L) → AreDifferent leaves → (tops : List ℕ) (t : Plain ℕ) → AreLeavesBelow (length leaves) t → IsReduced tops t
    → IsReduced tops (relabel leaves t)
reduced-relabel leaves d tops t h r = reduced_from-relabel leaves d tops 0 t h r
