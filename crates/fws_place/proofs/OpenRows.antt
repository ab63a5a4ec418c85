-- The rows of a reduced tree: each has a point within the tops, and where no value changes with the last fields, their sides
-- are whole.
use Rattle.std.proofs.Common.{◌≡◌, ℕ, suc, ◌≤◌, Bool, true, false, ◌&&◌, not, Some, List, [], ◌∷◌, ◌++◌, inl, inr, refl, sym, ◌∙◌, ap, subst, arith, length, length-append, append_assoc, All}
use Rattle.std.proofs.lemmas.Bool.{le-leb, leb-true, eqb-true, and_parts, and_from, cases_Bool, MatchBool-at_true, MatchBool-at_false, cond-true, cond-false, not-true, or_left}
use Rattle.std.proofs.lemmas.List.{append-nil}
use Rattle.std.proofs.lemmas.List.Elements.{All-nil, All-cons, All-append}
use Rattle.std.specs.Prelude.{nat_le, nat_eq, slice_set, map}
use Rattle.fws_iv.specs.declared.iv.Iv.{Iv}
use Rattle.fws_iv.specs.Ivs.{has, IsRegular}
use Rattle.fws_box.specs.Sides.{IsWithin, sides_have, whole_sides}
use Rattle.fws_tree.specs.declared.row.Row.{Row}
use Rattle.fws_tree.specs.Plain.{Plain, leaf, cut, Kids, none, kid, kid_at, value_from, EachKid, AreMany, Parts, IsReducedFrom, IsReduced}
use Rattle.fws_tree.specs.Rows.{paths_below, paths_through, paths_of}
use Rattle.fws_place.specs.Sides.{least_of, leasts, AreSidesOf}

-- Trees with one value

leaf_value : {L : Type 0} (f : ℕ) (a : L) (p : List ℕ) → value_from f (leaf a) p ≡ Some a
leaf_value f a [] = refl
leaf_value f a (x ∷ p) = leaf_value (suc f) a p

zeros : List ℕ → List ℕ
zeros tops = map (λ top. 0) tops

zeros_within : (tops : List ℕ) → IsWithin tops (zeros tops)
unfolding zeros
zeros_within [] = tt
zeros_within (top ∷ tops) = (omega arith, zeros_within tops)

-- the values at all points are the same
abbrev IsConstant : {L : Type 0} → ℕ → List ℕ → Plain L → Type 0
IsConstant f tops t = (p q : List ℕ) → IsWithin tops p → IsWithin tops q → value_from f t p ≡ value_from f t q

-- the value at a cut of the field at hand is that of a kid
cut_value : {L : Type 0} (f g x : ℕ) (ks : Kids L) (u : Plain L) (p : List ℕ) → nat_eq g f ≡ true → kid_at ks x ≡ u
    → value_from f (cut g ks) (x ∷ p) ≡ value_from (suc f) u p
cut_value f g x ks u p e h = ap (λ v. value_from (suc f) v p) (cond-true (nat_eq g f) (kid_at ks x) (cut g ks) e ∙ h)

-- and at a cut of another field that of the cut
other_value : {L : Type 0} (f g x : ℕ) (ks : Kids L) (p : List ℕ) → nat_eq g f ≡ false
    → value_from f (cut g ks) (x ∷ p) ≡ value_from (suc f) (cut g ks) p
other_value f g x ks p e = ap (λ v. value_from (suc f) v p) (cond-false (nat_eq g f) (kid_at ks x) (cut g ks) e)

off_parts : (b c : Bool) → (b && not c) ≡ true → (b ≡ true) × (c ≡ false)
off_parts b c e = let p = and_parts b (not c) e in (p.0, not-true c p.1)

off : (b c : Bool) → b ≡ true → c ≡ false → (b && not c) ≡ true
off b c p q = rw (p, q) refl

some_same : {L : Type 0} (a b : L) → Some a ≡ Some b → a ≡ b
some_same a b e = cc

-- the tree is a leaf
abbrev IsLeaf : {L : Type 0} → Plain L → Type 0
IsLeaf {L} t = (a : L) × (t ≡ leaf a)

-- a kid has one value, where a value leads to it and the cut has one
at_kid : {L : Type 0} (f g top : ℕ) (tops : List ℕ) (ks : Kids L) (x : ℕ) (u : Plain L) → nat_eq g f ≡ true → IsConstant f (top ∷ tops) (cut g ks)
    → nat_le x top ≡ true → kid_at ks x ≡ u → IsConstant (suc f) tops u
at_kid f g top tops ks x u y all le at p q v w =
    sym (cut_value f g x ks u p y at) ∙ all (x ∷ p) (x ∷ q) (leb-true x top le, v) (leb-true x top le, w) ∙ cut_value f g x ks u q y at

-- a cut with two kids or more hasn't one value
two_values : {L : Type 0} (f g top : ℕ) (tops : List ℕ) → ((u : Plain L) → IsReducedFrom (suc f) tops u → IsConstant (suc f) tops u → IsLeaf u)
    → (ks : Kids L) → AreMany ks → Parts (λ x. nat_le x top) ks → EachKid (IsReducedFrom (suc f) tops) ks → nat_eq g f ≡ true → IsConstant f (top ∷ tops) (cut g ks) → ⊥
two_values f g top tops leafy none many parts each y all = many
two_values f g top tops leafy (kid s t none) many parts each y all = many
two_values {L} f g top tops leafy (kid s t (kid r u ls)) many parts each y all =
    let whole : Kids L = kid s t (kid r u ls) in
    let x : ℕ = parts.2.0 in
    let z : ℕ = parts.4.2.0 in
    let dx : nat_le x top ≡ true = parts.1 x parts.2.1 in
    let p = off_parts (nat_le z top) (has s z) (parts.4.1 z parts.4.2.1) in
    let at_x : kid_at whole x ≡ t = cond-true (has s x) t (kid_at (kid r u ls) x) parts.2.1 in
    let at_z : kid_at whole z ≡ u = cond-false (has s z) t (kid_at (kid r u ls) z) p.1 ∙ cond-true (has r z) u (kid_at ls z) parts.4.2.1 in
    let one : IsLeaf t = leafy t each.0 (at_kid f g top tops whole x t y all dx at_x) in
    let other : IsLeaf u = leafy u each.1.0 (at_kid f g top tops whole z u y all p.0 at_z) in
    let o : List ℕ = zeros tops in
    let w : IsWithin tops o = zeros_within tops in
    let left : value_from f (cut g whole) (x ∷ o) ≡ Some one.0 = cut_value f g x whole t o y at_x ∙ ap (λ v. value_from (suc f) v o) one.1 ∙ leaf_value (suc f) one.0 o in
    let right : value_from f (cut g whole) (z ∷ o) ≡ Some other.0 = cut_value f g z whole u o y at_z ∙ ap (λ v. value_from (suc f) v o) other.1 ∙ leaf_value (suc f) other.0 o in
    let same_leaf : one.0 ≡ other.0 = some_same one.0 other.0 (sym left ∙ all (x ∷ o) (z ∷ o) (leb-true x top dx, w) (leb-true z top p.0, w) ∙ right) in
    parts.3.0 (one.1 ∙ ap leaf same_leaf ∙ sym other.1)

-- a reduced tree with one value is a leaf
pub constant_leaf : {L : Type 0} (tops : List ℕ) (f : ℕ) (t : Plain L) → IsReducedFrom f tops t → IsConstant f tops t → IsLeaf t
constant_leaf tops f (leaf a) r same = (a, refl)
constant_leaf [] f (cut g ks) r same = absurd r
constant_leaf {L} (top ∷ tops) f (cut g ks) r same = elim (cases_Bool (nat_eq g f)) [
  | inl y ↦
      let m = MatchBool-at_true _ _ y r in
      absurd (two_values f g top tops (λ u q one. constant_leaf tops (suc f) u q one) ks m.0 m.1 m.2 y same)
  | inr n ↦
      constant_leaf tops (suc f) (cut g ks) (MatchBool-at_false _ _ n r)
      (λ p q v w. sym (other_value f g 0 ks p n) ∙ same (0 ∷ p) (0 ∷ q) (omega arith, v) (omega arith, w) ∙ other_value f g 0 ks q n)
]

-- Sides

-- the side of a kid
pub kid_side : (s : List Iv) (top : ℕ) → IsRegular s → ((x : ℕ) → has s x ≡ true → nat_le x top ≡ true) → (x : ℕ) → has s x ≡ true
    → (has s (least_of s) ≡ true) × (least_of s ≤ top)
kid_side [] top regular low x h = absurd (cc)
kid_side (i ∷ s) top regular low x h =
    let first : has (i ∷ s) i.lo ≡ true = or_left _ _ (and_from (nat_le i.lo i.lo) (nat_le i.lo i.hi) (le-leb i.lo i.lo (omega arith)) (le-leb i.lo i.hi regular.1)) in
    (first, leb-true i.lo top (low i.lo first))

-- the side of a field that isn't cut
whole_side : (top : ℕ) → has (record { lo = 0; hi = top } ∷ []) 0 ≡ true
whole_side top = or_left _ _ (and_from (nat_le 0 0) (nat_le 0 top) (le-leb 0 0 (omega arith)) (le-leb 0 top (omega arith)))

sides_more : (tops : List ℕ) (sides : List (List Iv)) (top : ℕ) (s : List Iv) → AreSidesOf tops sides → has s (least_of s) ≡ true → least_of s ≤ top
    → AreSidesOf (tops ++ top ∷ []) (sides ++ s ∷ [])
sides_more [] [] top s a h le = (h, le, tt)
sides_more [] (r ∷ sides) top s a h le = absurd a
sides_more (t ∷ tops) [] top s a h le = absurd a
sides_more (t ∷ tops) (r ∷ sides) top s a h le = (a.0, a.1, sides_more tops sides top s a.2 h le)

slice_set-front : (front : List (List Iv)) (s r : List Iv) (rest : List (List Iv)) → slice_set (front ++ s ∷ rest) (length front) r ≡ front ++ r ∷ rest
slice_set-front [] s r rest = refl
slice_set-front (t ∷ front) s r rest = ap (λ l. t ∷ l) (slice_set-front front s r rest)

-- the least values of the sides make a point within the tops, and the sides have it
pub least_within : (tops : List ℕ) (sides : List (List Iv)) → AreSidesOf tops sides → IsWithin tops (leasts sides)
least_within [] [] a = tt
least_within [] (s ∷ sides) a = absurd a
least_within (top ∷ tops) [] a = absurd a
least_within (top ∷ tops) (s ∷ sides) a = (a.1, least_within tops sides a.2)

pub least_had : (tops : List ℕ) (sides : List (List Iv)) → AreSidesOf tops sides → sides_have sides (leasts sides) ≡ true
least_had [] [] a = refl
least_had [] (s ∷ sides) a = absurd a
least_had (top ∷ tops) [] a = absurd a
least_had (top ∷ tops) (s ∷ sides) a = and_from _ _ a.0 (least_had tops sides a.2)

pub whole_sides_of : (tops : List ℕ) → AreSidesOf tops (whole_sides tops)
whole_sides_of [] = tt
whole_sides_of (top ∷ tops) = (whole_side top, omega arith, whole_sides_of tops)

pub sides_both : (tops others : List ℕ) (sides rest : List (List Iv)) → AreSidesOf tops sides → AreSidesOf others rest → AreSidesOf (tops ++ others) (sides ++ rest)
sides_both [] others [] rest a b = b
sides_both [] others (s ∷ sides) rest a b = absurd a
sides_both (top ∷ tops) others [] rest a b = absurd a
sides_both (top ∷ tops) others (s ∷ sides) rest a b = (a.0, a.1, sides_both tops others sides rest a.2 b)

-- Rows

-- the sides of the row are sides of the tops, those of the last fields whole
abbrev pub IsOpen : {L : Type 0} → List ℕ → List ℕ → Row L → Type 0
IsOpen firsts lasts row = (sides : List (List Iv)) × AreSidesOf firsts sides × (row.sides ≡ sides ++ whole_sides lasts)

-- no value changes with the last fields
abbrev pub IsFreeOfLasts : {L : Type 0} → ℕ → List ℕ → List ℕ → Plain L → Type 0
IsFreeOfLasts f firsts lasts t = (before after others : List ℕ) → IsWithin firsts before → IsWithin lasts after → IsWithin lasts others
    → value_from f t (before ++ after) ≡ value_from f t (before ++ others)

-- rows of kids, of which each is good where some value leads to it
through : {L : Type 0} (Good : Row L → Type 0) (Q : Plain L → Type 0) (sides : List (List Iv)) (g top : ℕ) (whole : Kids L)
    → ((s : List Iv) (u : Plain L) (x : ℕ) → has s (least_of s) ≡ true → least_of s ≤ top → x ≤ top → kid_at whole x ≡ u → Q u → All Good (paths_below (slice_set sides g s) u))
    → (domain : ℕ → Bool) (ks : Kids L) → ((x : ℕ) → domain x ≡ true → nat_le x top ≡ true) → ((x : ℕ) → domain x ≡ true → kid_at whole x ≡ kid_at ks x)
    → Parts domain ks → EachKid Q ks → All Good (paths_through sides g ks)
through Good Q sides g top whole each domain none low at parts kids = All-nil _
through Good Q sides g top whole each domain (kid s t ks) low at parts kids =
    let x : ℕ = parts.2.0 in
    let d : domain x ≡ true = parts.1 x parts.2.1 in
    let side = kid_side s top parts.0 (λ y h. low y (parts.1 y h)) x parts.2.1 in
    All-append Good (paths_below (slice_set sides g s) t) (paths_through sides g ks)
    (each s t x side.0 side.1 (leb-true x top (low x d)) (at x d ∙ cond-true (has s x) t (kid_at ks x) parts.2.1) kids.0)
    (through Good Q sides g top whole each (λ y. domain y && not (has s y)) ks
    (λ y h. low y (off_parts (domain y) (has s y) h).0)
    (λ y h. let p = off_parts (domain y) (has s y) h in at y p.0 ∙ cond-false (has s y) t (kid_at ks y) p.1)
    parts.4 kids.1)

-- all rows of the tree are open, with these sides for the fields before the first of the tops
abbrev AreOpen : {L : Type 0} → List ℕ → List ℕ → List ℕ → List (List Iv) → Plain L → Type 0
AreOpen firsts lasts fronts front t = All (IsOpen (fronts ++ firsts) lasts) (paths_below (front ++ whole_sides (firsts ++ lasts)) t)

-- what is known of a tree whose rows are asked for
abbrev MayOpen : {L : Type 0} → List ℕ → List ℕ → List (List Iv) → Plain L → Type 0
MayOpen firsts lasts front t = IsReducedFrom (length front) (firsts ++ lasts) t × IsFreeOfLasts (length front) firsts lasts t

-- the rows of a tree at the next field, with a side for this one
next : {L : Type 0} (top : ℕ) (firsts lasts fronts : List ℕ) (front : List (List Iv)) (s : List Iv) (u : Plain L)
    → (AreSidesOf (fronts ++ top ∷ []) (front ++ s ∷ []) → MayOpen firsts lasts (front ++ s ∷ []) u → AreOpen firsts lasts (fronts ++ top ∷ []) (front ++ s ∷ []) u)
    → AreSidesOf fronts front → has s (least_of s) ≡ true → least_of s ≤ top
    → IsReducedFrom (suc (length front)) (firsts ++ lasts) u → IsFreeOfLasts (suc (length front)) firsts lasts u
    → All (IsOpen (fronts ++ top ∷ firsts) lasts) (paths_below (front ++ s ∷ whole_sides (firsts ++ lasts)) u)
next top firsts lasts fronts front s u onwards a h le q free =
    let longer : suc (length front) ≡ length (front ++ s ∷ []) = omega (arith, length-append front (s ∷ [])) in
    subst (λ ts. All (IsOpen ts lasts) (paths_below (front ++ s ∷ whole_sides (firsts ++ lasts)) u)) (append_assoc fronts (top ∷ []) firsts)
    (subst (λ l. All (IsOpen ((fronts ++ top ∷ []) ++ firsts) lasts) (paths_below l u)) (append_assoc front (s ∷ []) (whole_sides (firsts ++ lasts)))
    (onwards (sides_more fronts front top s a h le)
    (subst (λ k. IsReducedFrom k (firsts ++ lasts) u) longer q, subst (λ k. IsFreeOfLasts k firsts lasts u) longer free)))

open_below : {L : Type 0} (firsts lasts fronts : List ℕ) (front : List (List Iv)) (t : Plain L) → AreSidesOf fronts front → MayOpen firsts lasts front t → AreOpen firsts lasts fronts front t
open_below {L} [] lasts fronts front t a may =
    let found = constant_leaf lasts (length front) t may.0 (λ p q v w. may.1 [] p q tt v w) in
    subst (λ u. All (IsOpen (fronts ++ []) lasts) (paths_below (front ++ whole_sides lasts) u)) (sym found.1)
    (All-cons (IsOpen (fronts ++ []) lasts) (record { sides = front ++ whole_sides lasts; leaf = found.0 }) [] (front, subst (λ ts. AreSidesOf ts front) (sym (append-nil fronts)) a, refl) (All-nil _))
open_below {L} (top ∷ firsts) lasts fronts front (leaf b) a may =
    next top firsts lasts fronts front (record { lo = 0; hi = top } ∷ []) (leaf b)
    (λ c m. open_below firsts lasts (fronts ++ top ∷ []) (front ++ (record { lo = 0; hi = top } ∷ []) ∷ []) (leaf b) c m)
    a (whole_side top) (omega arith) tt
    (λ before after others v w z. may.1 (0 ∷ before) after others (omega arith, v) w z)
open_below {L} (top ∷ firsts) lasts fronts front (cut g ks) a may = elim (cases_Bool (nat_eq g (length front))) [
  | inl y ↦
      let m = MatchBool-at_true _ _ y may.0 in
      let same : length front ≡ g = sym (eqb-true g (length front) y) in
      let rest : List (List Iv) = whole_sides (firsts ++ lasts) in
      through (IsOpen (fronts ++ top ∷ firsts) lasts) (IsReducedFrom (suc (length front)) (firsts ++ lasts)) (front ++ (record { lo = 0; hi = top } ∷ []) ∷ rest) g top ks
      (λ s u x h le low at q.
      subst (λ k. All (IsOpen (fronts ++ top ∷ firsts) lasts) (paths_below (slice_set (front ++ (record { lo = 0; hi = top } ∷ []) ∷ rest) k s) u)) same
      (subst (λ l. All (IsOpen (fronts ++ top ∷ firsts) lasts) (paths_below l u)) (sym (slice_set-front front (record { lo = 0; hi = top } ∷ []) s rest))
      (next top firsts lasts fronts front s u
      (λ c n. open_below firsts lasts (fronts ++ top ∷ []) (front ++ s ∷ []) u c n)
      a h le q
      (λ before after others v w z. sym (cut_value (length front) g x ks u (before ++ after) y at) ∙ may.1 (x ∷ before) after others (low, v) w z ∙ cut_value (length front) g x ks u (before ++ others) y at))))
      (λ x. nat_le x top) ks (λ x d. d) (λ x d. refl) m.1 m.2
  | inr n ↦
      next top firsts lasts fronts front (record { lo = 0; hi = top } ∷ []) (cut g ks)
      (λ c m. open_below firsts lasts (fronts ++ top ∷ []) (front ++ (record { lo = 0; hi = top } ∷ []) ∷ []) (cut g ks) c m)
      a (whole_side top) (omega arith) (MatchBool-at_false _ _ n may.0)
      (λ before after others v w z. sym (other_value (length front) g 0 ks (before ++ after) n) ∙ may.1 (0 ∷ before) after others (omega arith, v) w z ∙ other_value (length front) g 0 ks (before ++ others) n)
]

-- the rows of a reduced tree whose values don't change with the last fields
pub rows_are_open : {L : Type 0} (firsts lasts : List ℕ) (t : Plain L) → IsReduced (firsts ++ lasts) t → IsFreeOfLasts 0 firsts lasts t
    → All (IsOpen firsts lasts) (paths_of (firsts ++ lasts) t)
rows_are_open firsts lasts t r free = open_below firsts lasts [] [] t tt (r, free)

-- the rows of any reduced tree
pub rows_have_sides : {L : Type 0} (tops : List ℕ) (t : Plain L) → IsReduced tops t → All (λ row. AreSidesOf tops row.sides) (paths_of tops t)
rows_have_sides {L} tops t r k d lt =
    let all : All (IsOpen tops []) (paths_of tops t)
    = subst (λ ts. All (IsOpen tops []) (paths_of ts t)) (append-nil tops)
    (rows_are_open tops [] t (subst (λ ts. IsReduced ts t) (sym (append-nil tops)) r)
    (λ before after others v w z. ap (λ l. value_from 0 t (before ++ l)) (none_after after others w z))) in
    let row = all k d lt in
    subst (λ l. AreSidesOf tops l) (sym (row.2 ∙ append-nil row.0)) row.1
  where
    none_after : (after others : List ℕ) → IsWithin [] after → IsWithin [] others → after ≡ others
    none_after [] [] w z = refl
    none_after [] (y ∷ others) w z = absurd z
    none_after (x ∷ after) others w z = absurd w
