-- The paths of a reduced tree part the points within its tops, and each has the value of its points.
use Rattle.std.proofs.Common.{◌≡◌, ℕ, suc, ◌+◌, Bool, true, false, ◌&&◌, not, cond, Option, Some, List, [], ◌∷◌, ◌++◌, inl, inr, refl, sym, ◌∙◌, ap, subst, arith, length, length-append, append_assoc}
use Rattle.std.proofs.Math.Bool.{and-true, and_assoc}
use Rattle.std.proofs.lemmas.Bool.{le-leb, and_parts, and_from, or_left, cases_Bool, MatchBool-at_true, MatchBool-at_false, cond-true, not-true, eqb-true}
use Rattle.std.proofs.lemmas.List.{length-map}
use Rattle.std.proofs.lemmas.List.Elements.{All-nil, All-cons, All-append}
use Rattle.std.specs.Prelude.{nat_le, nat_eq, slice_set, All}
use Rattle.fws_iv.specs.declared.iv.Iv.{Iv}
use Rattle.fws_iv.specs.Ivs.{has}
use Rattle.fws_tree.specs.declared.row.Row.{Row}
use Rattle.fws_tree.specs.Plain.{Plain, leaf, cut, Kids, none, kid, kid_at, value_from, value, EachKid, Parts, IsReducedFrom, IsReduced}
use Rattle.fws_box.specs.Sides.{IsWithin, sides_have, whole_sides}
use Rattle.fws_tree.specs.Rows.{row_hits, paths_below, paths_through, paths_of}
use Rattle.fws_tree.proofs.Reduced.{cond_false}

-- 1 where the test holds
abbrev one : Bool → ℕ
one b = cond b 1 0

row_hits-append : {L : Type 0} (xs ys : List (Row L)) (p : List ℕ) → row_hits (xs ++ ys) p ≡ row_hits xs p + row_hits ys p
row_hits-append [] ys p = omega arith
row_hits-append (r ∷ xs) ys p = let e = row_hits-append xs ys p in omega (arith, e)

-- a test of the whole is a test of the fields before one and a test of the others
sides_have-append : (front rest : List (List Iv)) (before after : List ℕ) → length front ≡ length before
    → sides_have (front ++ rest) (before ++ after) ≡ (sides_have front before && sides_have rest after)
sides_have-append [] rest [] after e = refl
sides_have-append [] rest (x ∷ before) after e = absurd (omega arith)
sides_have-append (s ∷ front) rest [] after e = absurd (omega arith)
sides_have-append (s ∷ front) rest (x ∷ before) after e =
    ap (λ b. has s x && b) (sides_have-append front rest before after (omega arith)) ∙ sym (and_assoc (has s x) (sides_have front before) (sides_have rest after))

sides_have-push : (front : List (List Iv)) (s : List Iv) (before : List ℕ) (x : ℕ) → length front ≡ length before
    → sides_have (front ++ s ∷ []) (before ++ x ∷ []) ≡ (sides_have front before && has s x)
sides_have-push front s before x e = sides_have-append front (s ∷ []) before (x ∷ []) e ∙ ap (λ b. sides_have front before && b) (and-true (has s x))

sides_have-open : (front rest : List (List Iv)) (before after : List ℕ) → length front ≡ length before → sides_have rest after ≡ true
    → sides_have (front ++ rest) (before ++ after) ≡ sides_have front before
sides_have-open front rest before after e h = sides_have-append front rest before after e ∙ ap (λ b. sides_have front before && b) h ∙ and-true (sides_have front before)

slice_set-front : (front : List (List Iv)) (s r : List Iv) (rest : List (List Iv)) → slice_set (front ++ s ∷ rest) (length front) r ≡ front ++ r ∷ rest
slice_set-front [] s r rest = refl
slice_set-front (t ∷ front) s r rest = ap (λ l. t ∷ l) (slice_set-front front s r rest)

-- ---- how many rows hold a point

one-split : (h a d : Bool) → (a ≡ true → d ≡ true) → one (h && a) + one (h && (d && not a)) ≡ one (h && d)
one-split false a d f = refl
one-split true true true f = refl
one-split true true false f = let e = f refl in absurd (cc)
one-split true false true f = refl
one-split true false false f = refl

-- kids that part a domain hold the point once where its value is in the domain
hits-through : {L : Type 0} (Q : Plain L → Type 0) (sides : List (List Iv)) (g : ℕ) (p : List ℕ) (h : Bool) (x : ℕ)
    → ((s : List Iv) (u : Plain L) → Q u → row_hits (paths_below (slice_set sides g s) u) p ≡ one (h && has s x))
    → (domain : ℕ → Bool) (ks : Kids L) → Parts domain ks → EachKid Q ks → row_hits (paths_through sides g ks) p ≡ one (h && domain x)
hits-through Q sides g p h x below domain none parts each = nothing h (domain x) (parts x)
  where
    nothing : (h d : Bool) → d ≡ false → ◌≡◌ {A = ℕ} 0 (one (h && d))
    nothing true true e = absurd (cc)
    nothing true false e = refl
    nothing false d e = refl
hits-through Q sides g p h x below domain (kid s t ks) parts each =
    row_hits-append (paths_below (slice_set sides g s) t) (paths_through sides g ks) p
    ∙ ap (λ n. n + row_hits (paths_through sides g ks) p) (below s t each.0)
    ∙ ap (λ n. one (h && has s x) + n) (hits-through Q sides g p h x below (λ y. domain y && not (has s y)) ks parts.4 each.1)
    ∙ one-split h (has s x) (domain x) (parts.1 x)

-- what is said of a side and the others apart, said of them all
hits_moved : {L : Type 0} (front : List (List Iv)) (s : List Iv) (rest : List (List Iv)) (before : List ℕ) (x : ℕ) (after : List ℕ) (u : Plain L) → length front ≡ length before
    → row_hits (paths_below ((front ++ s ∷ []) ++ rest) u) ((before ++ x ∷ []) ++ after) ≡ one (sides_have (front ++ s ∷ []) (before ++ x ∷ []))
    → row_hits (paths_below (front ++ s ∷ rest) u) (before ++ x ∷ after) ≡ one (sides_have front before && has s x)
hits_moved front s rest before x after u e h =
    ap (λ l. row_hits (paths_below l u) (before ++ x ∷ after)) (sym (append_assoc front (s ∷ []) rest))
    ∙ ap (λ l. row_hits (paths_below ((front ++ s ∷ []) ++ rest) u) l) (sym (append_assoc before (x ∷ []) after))
    ∙ h ∙ ap one (sides_have-push front s before x e)

hits-below : {L : Type 0} (tops : List ℕ) (t : Plain L) (front rest : List (List Iv)) (before after : List ℕ) → length front ≡ length before → length rest ≡ length tops
    → IsReducedFrom (length front) tops t → IsWithin tops after → sides_have rest after ≡ true
    → row_hits (paths_below (front ++ rest) t) (before ++ after) ≡ one (sides_have front before)
hits-below tops (leaf a) front rest before after e n r w h = let k = ap one (sides_have-open front rest before after e h) in omega (arith, k)
hits-below [] (cut g ks) front rest before after e n r w h = absurd r
hits-below (top ∷ tops) (cut g ks) front [] before after e n r w h = absurd (omega arith)
hits-below (top ∷ tops) (cut g ks) front (s ∷ rest) before [] e n r w h = absurd w
hits-below {L} (top ∷ tops) (cut g ks) front (s ∷ rest) before (x ∷ after) e n r w h =
    let parted = and_parts (has s x) (sides_have rest after) h in
    let longer : suc (length front) ≡ length (front ++ s ∷ []) = omega (arith, length-append front (s ∷ [])) in
    let f : ℕ = length front in
    let here : Bool = sides_have front before in
    let on : (r : List Iv) (u : Plain L) → IsReducedFrom (suc f) tops u → row_hits (paths_below (front ++ r ∷ rest) u) (before ++ x ∷ after) ≡ one (here && has r x)
    = λ r u q. let l : suc (length front) ≡ length (front ++ r ∷ []) = omega (arith, length-append front (r ∷ [])) in
    let m : length (front ++ r ∷ []) ≡ length (before ++ x ∷ []) = omega (arith, length-append front (r ∷ []), length-append before (x ∷ [])) in
    hits_moved front r rest before x after u e
    (hits-below tops u (front ++ r ∷ []) rest (before ++ x ∷ []) after m (omega arith) (subst (λ k. IsReducedFrom k tops u) l q) w.1 parted.1) in
    elim (cases_Bool (nat_eq g f)) [
      | inl y ↦ let m = MatchBool-at_true _ _ y r in let same : f ≡ g = sym (eqb-true g f y) in
          hits-through (IsReducedFrom (suc f) tops) (front ++ s ∷ rest) g (before ++ x ∷ after) here x
          (λ r u q. ap (λ k. row_hits (paths_below (slice_set (front ++ s ∷ rest) k r) u) (before ++ x ∷ after)) (sym same)
          ∙ ap (λ l. row_hits (paths_below l u) (before ++ x ∷ after)) (slice_set-front front s r rest) ∙ on r u q)
          (λ y. nat_le y top) ks m.1 m.2
          ∙ ap (λ b. one (here && b)) (le-leb x top w.0) ∙ ap one (and-true here)
      | inr z ↦ on s (cut g ks) (MatchBool-at_false _ _ z r) ∙ ap (λ b. one (here && b)) parted.0 ∙ ap one (and-true here)
    ]

-- ---- the leaf of a row that holds a point

pub leaf_value : {L : Type 0} (f : ℕ) (a : L) (p : List ℕ) → value_from f (leaf a) p ≡ Some a
leaf_value f a [] = refl
leaf_value f a (x ∷ p) = leaf_value (suc f) a p

-- a row that holds the point only where the test holds, and then has this value
abbrev IsRight : {L : Type 0} → List ℕ → Bool → Option L → Row L → Type 0
IsRight p h v r = sides_have r.sides p ≡ true → (h ≡ true) × (v ≡ Some r.leaf)

right-through : {L : Type 0} (Q : Plain L → Type 0) (sides : List (List Iv)) (g : ℕ) (p : List ℕ) (h : Bool) (x f : ℕ) (after : List ℕ)
    → ((s : List Iv) (u : Plain L) → Q u → All (IsRight p (h && has s x) (value_from f u after)) (paths_below (slice_set sides g s) u))
    → (domain : ℕ → Bool) (ks : Kids L) → Parts domain ks → EachKid Q ks → All (IsRight p (h && domain x) (value_from f (kid_at ks x) after)) (paths_through sides g ks)
right-through Q sides g p h x f after below domain none parts each = All-nil _
right-through Q sides g p h x f after below domain (kid s t ks) parts each =
    let first = below s t each.0 in
    let others = right-through Q sides g p h x f after below (λ y. domain y && not (has s y)) ks parts.4 each.1 in
    All-append (IsRight p (h && domain x) (value_from f (kid_at (kid s t ks) x) after)) (paths_below (slice_set sides g s) t) (paths_through sides g ks)
    (λ k d lt q. let b = first k d lt q in let hs = and_parts h (has s x) b.0 in
    (and_from h (domain x) hs.0 (parts.1 x hs.1), ap (λ u. value_from f u after) (cond-true (has s x) t (kid_at ks x) hs.1) ∙ b.1))
    (λ k d lt q. let b = others k d lt q in
    let hd = and_parts h (domain x && not (has s x)) b.0 in
    let ds = and_parts (domain x) (not (has s x)) hd.1 in
    (and_from h (domain x) hd.0 ds.0, ap (λ u. value_from f u after) (cond_false (has s x) t (kid_at ks x) (not-true (has s x) ds.1)) ∙ b.1))

right_moved : {L : Type 0} (front : List (List Iv)) (s : List Iv) (rest : List (List Iv)) (before : List ℕ) (x : ℕ) (after : List ℕ) (u : Plain L) (v : Option L) → length front ≡ length before
    → All (IsRight ((before ++ x ∷ []) ++ after) (sides_have (front ++ s ∷ []) (before ++ x ∷ [])) v) (paths_below ((front ++ s ∷ []) ++ rest) u)
    → All (IsRight (before ++ x ∷ after) (sides_have front before && has s x) v) (paths_below (front ++ s ∷ rest) u)
right_moved front s rest before x after u v e h =
    subst (λ l. All (IsRight (before ++ x ∷ after) (sides_have front before && has s x) v) (paths_below l u)) (append_assoc front (s ∷ []) rest)
    (subst (λ l. All (IsRight l (sides_have front before && has s x) v) (paths_below ((front ++ s ∷ []) ++ rest) u)) (append_assoc before (x ∷ []) after)
    (subst (λ b. All (IsRight ((before ++ x ∷ []) ++ after) b v) (paths_below ((front ++ s ∷ []) ++ rest) u)) (sides_have-push front s before x e) h))

right-below : {L : Type 0} (tops : List ℕ) (t : Plain L) (front rest : List (List Iv)) (before after : List ℕ) → length front ≡ length before → length rest ≡ length tops
    → IsReducedFrom (length front) tops t → IsWithin tops after → sides_have rest after ≡ true
    → All (IsRight (before ++ after) (sides_have front before) (value_from (length front) t after)) (paths_below (front ++ rest) t)
right-below tops (leaf a) front rest before after e n r w h = All-cons (IsRight (before ++ after) (sides_have front before) (value_from (length front) (leaf a) after)) (record { sides = front ++ rest; leaf = a }) []
    (λ k. (sym (sides_have-open front rest before after e h) ∙ k, leaf_value (length front) a after)) (All-nil _)
right-below [] (cut g ks) front rest before after e n r w h = absurd r
right-below (top ∷ tops) (cut g ks) front [] before after e n r w h = absurd (omega arith)
right-below (top ∷ tops) (cut g ks) front (s ∷ rest) before [] e n r w h = absurd w
right-below {L} (top ∷ tops) (cut g ks) front (s ∷ rest) before (x ∷ after) e n r w h =
    let parted = and_parts (has s x) (sides_have rest after) h in
    let f : ℕ = length front in
    let here : Bool = sides_have front before in
    let on : (r : List Iv) (u : Plain L) → IsReducedFrom (suc f) tops u
    → All (IsRight (before ++ x ∷ after) (here && has r x) (value_from (suc f) u after)) (paths_below (front ++ r ∷ rest) u)
    = λ r u q. let l : suc (length front) ≡ length (front ++ r ∷ []) = omega (arith, length-append front (r ∷ [])) in
    let m : length (front ++ r ∷ []) ≡ length (before ++ x ∷ []) = omega (arith, length-append front (r ∷ []), length-append before (x ∷ [])) in
    right_moved front r rest before x after u (value_from (suc f) u after) e
    (subst (λ k. All (IsRight ((before ++ x ∷ []) ++ after) (sides_have (front ++ r ∷ []) (before ++ x ∷ [])) (value_from k u after)) (paths_below ((front ++ r ∷ []) ++ rest) u)) (sym l)
    (right-below tops u (front ++ r ∷ []) rest (before ++ x ∷ []) after m (omega arith) (subst (λ k. IsReducedFrom k tops u) l q) w.1 parted.1)) in
    elim (cases_Bool (nat_eq g f)) [
      | inl y ↦
          let m = MatchBool-at_true _ _ y r in
          let same : f ≡ g = sym (eqb-true g f y) in
          let given = right-through (IsReducedFrom (suc f) tops) (front ++ s ∷ rest) g (before ++ x ∷ after) here x (suc f) after
          (λ r u q. subst (λ k. All (IsRight (before ++ x ∷ after) (here && has r x) (value_from (suc f) u after)) (paths_below (slice_set (front ++ s ∷ rest) k r) u)) same
          (subst (λ l. All (IsRight (before ++ x ∷ after) (here && has r x) (value_from (suc f) u after)) (paths_below l u)) (sym (slice_set-front front s r rest)) (on r u q)))
          (λ y. nat_le y top) ks m.1 m.2 in
          (λ k d lt q. let b = given k d lt q in
          ((and_parts here (nat_le x top) b.0).0, ap (λ u. value_from (suc f) u after) (cond-true (nat_eq g f) (kid_at ks x) (cut g ks) y) ∙ b.1))
      | inr z ↦
          let given = on s (cut g ks) (MatchBool-at_false _ _ z r) in
          (λ k d lt q. let b = given k d lt q in
          ((and_parts here (has s x) b.0).0, ap (λ u. value_from (suc f) u after) (cond_false (nat_eq g f) (kid_at ks x) (cut g ks) z) ∙ b.1))
    ]

-- ---- all the paths

-- a point within the tops lies in the whole ranges
whole_have : (tops p : List ℕ) → IsWithin tops p → sides_have (whole_sides tops) p ≡ true
whole_have [] [] w = refl
whole_have [] (x ∷ p) w = absurd w
whole_have (top ∷ tops) [] w = absurd w
whole_have (top ∷ tops) (x ∷ p) w = and_from _ _ (or_left _ _ (and_from (nat_le 0 x) (nat_le x top) (le-leb 0 x (omega arith)) (le-leb x top w.0))) (whole_have tops p w.1)

-- each point within the tops lies in one path
pub paths_once : {L : Type 0} (tops : List ℕ) (t : Plain L) (rows : List (Row L)) → IsReduced tops t → rows ≡ paths_of tops t → (p : List ℕ) → IsWithin tops p → row_hits rows p ≡ 1
paths_once tops t rows r e p w = ap (λ l. row_hits l p) e
    ∙ hits-below tops t [] (whole_sides tops) [] p refl (length-map tops (λ top. record { lo = 0; hi = top } ∷ [])) r w (whole_have tops p w)

-- and the path has the tree's value at the point
pub paths_right : {L : Type 0} (tops : List ℕ) (t : Plain L) (rows : List (Row L)) → IsReduced tops t → rows ≡ paths_of tops t → (p : List ℕ) → IsWithin tops p
    → All (λ r. sides_have r.sides p ≡ true → value t p ≡ Some r.leaf) rows
paths_right tops t rows r e p w = subst (λ l. All (λ o. sides_have o.sides p ≡ true → value t p ≡ Some o.leaf) l) (sym e)
    (let given = right-below tops t [] (whole_sides tops) [] p refl (length-map tops (λ top. record { lo = 0; hi = top } ∷ [])) r w (whole_have tops p w) in
    λ k d lt q. (given k d lt q).1)
