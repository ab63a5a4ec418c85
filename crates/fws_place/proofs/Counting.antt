-- How many different leaves rows show.
use Rattle.std.proofs.Common.{◌≡◌, ◌≢◌, ℕ, zero, suc, ◌+◌, ◌-◌, ◌<◌, ◌≤◌, Bool, true, false, eqb, Option, Some, None, List, [], ◌∷◌, ◌++◌, ◌⊎◌, inl, inr, refl, sym, ◌∙◌, ap, subst, arith, length, length-append, get_or, take, All}
use Rattle.std.proofs.lemmas.Bool.{eqb-true, or_cases, both_ways, false_from_ne_true, cond-true, cond-false}
use Rattle.std.proofs.lemmas.List.{map-append, take_all, take_more}
use Rattle.std.proofs.lemmas.List.Elements.{All-nil, All-cons, All-append, All-push, All-weaker, All-contains, Contains-push, Contains-append_left, recursion_from_All}
use Rattle.std.proofs.lemmas.Map.Keys.{apart_from_distinct, IsDistinct-cons}
use Rattle.std.proofs.lemmas.Map.Steps.{length-le_from_distinct_below}
use Rattle.std.proofs.lemmas.Option.{get_or_from_slice_get, slice_get_within}
use Rattle.std.specs.Prelude.{slice_get, slice_set, Contains}
use Rattle.std.specs.Cmp.{IsEquivalence}
use Rattle.std.specs.List.{IsDistinct, list_any}
use Rattle.indexmap.specs.IndexSet.{insert_key}
use Rattle.fws_iv.specs.declared.iv.Iv.{Iv}
use Rattle.fws_box.specs.Sides.{whole_sides}
use Rattle.fws_tree.specs.declared.row.Row.{Row}
use Rattle.fws_tree.specs.declared.node.Node.{Node}
use Rattle.fws_tree.specs.Nodes.{relabel, relabel_kids, named_leaf, tree_of}
use Rattle.fws_tree.specs.Plain.{Plain, leaf, cut, Kids, none, kid}
use Rattle.fws_tree.specs.Rows.{paths_below, paths_of, paths_through}
use Rattle.fws_tree.specs.Shared.{IsShared}
use Rattle.fws_place.specs.Exactly.{IsPut}
use Rattle.fws_place.specs.Counts.{AreDifferent, leaves_of, ShowLeavesAbove, IsFirstAbove}

-- Pigeons

-- the property holds of each item
abbrev Each : {X : Type 0} → (X → Type 0) → List X → Type 0
Each P [] = Unit {0}
Each P (x ∷ xs) = P x × Each P xs

each_all : {X : Type 0} (P : X → Type 0) (xs : List X) → Each P xs → All P xs
each_all P [] h = All-nil _
each_all P (x ∷ xs) h = All-cons P x xs h.0 (each_all P xs h.1)

all_each : {X : Type 0} (P : X → Type 0) (xs : List X) → All P xs → Each P xs
all_each P [] h = tt
all_each P (x ∷ xs) h = (h 0 x (omega arith), all_each P xs (λ k d lt. h (suc k) d (omega arith)))

-- where the items stand in the other list
places : {X : Type 0} (xs ys : List X) → Each (Contains ys) xs → List ℕ
places [] ys h = []
places (x ∷ xs) ys h = h.0.0 ∷ places xs ys h.1

places_many : {X : Type 0} (xs ys : List X) (h : Each (Contains ys) xs) → length (places xs ys h) ≡ length xs
unfolding places
places_many [] ys h = refl
places_many (x ∷ xs) ys h = ap suc (places_many xs ys h.1)

-- the places are places of the other list
places_below : {X : Type 0} (xs ys : List X) (h : Each (Contains ys) xs) (q : ℕ) → list_any (eqb q) (places xs ys h) ≡ true → q < length ys
unfolding places
places_below [] ys h q e = absurd (cc)
places_below (x ∷ xs) ys h q e = elim (or_cases (eqb q h.0.0) (list_any (eqb q) (places xs ys h.1)) e) [
  | inl here ↦ let same : q ≡ h.0.0 = eqb-true q h.0.0 here in let lt : h.0.0 < length ys = h.0.1 in omega arith
  | inr there ↦ places_below xs ys h.1 q there
]

pub get_or_any : {X : Type 0} (xs : List X) (k : ℕ) (d e : X) → k < length xs → get_or xs k d ≡ get_or xs k e
get_or_any [] k d e lt = absurd (omega arith)
get_or_any (x ∷ xs) zero d e lt = refl
get_or_any (x ∷ xs) (suc k) d e lt = get_or_any xs k d e (omega arith)

-- an item that differs from each of others stands at another place
places_apart : {X : Type 0} (x : X) (ys : List X) (k : ℕ) → k < length ys → get_or ys k x ≡ x → (xs : List X) (h : Each (Contains ys) xs) → Each (λ y. x ≢ y) xs
    → Each (λ q. eqb k q ≡ false) (places xs ys h)
unfolding places
places_apart x ys k lt at [] h apart = tt
places_apart x ys k lt at (y ∷ xs) h apart = (
  false_from_ne_true (eqb k h.0.0) (λ e.
      let same : k ≡ h.0.0 = eqb-true k h.0.0 e in
      apart.0 (sym at ∙ get_or_any ys k x y lt ∙ ap (λ j. get_or ys j y) same ∙ h.0.2)),
  places_apart x ys k lt at xs h.1 apart.1,
)

different_head : {X : Type 0} (x : X) (xs : List X) → AreDifferent (x ∷ xs) → Each (λ y. x ≢ y) xs
different_head x xs d = all_each (λ y. x ≢ y) xs (λ k e lt. d 0 (suc k) e (omega arith) (omega arith))

different_tail : {X : Type 0} (x : X) (xs : List X) → AreDifferent (x ∷ xs) → AreDifferent xs
different_tail x xs d = λ i j e lt le. d (suc i) (suc j) e (omega arith) (omega arith)

places_distinct : {X : Type 0} (xs ys : List X) (h : Each (Contains ys) xs) → AreDifferent xs → IsDistinct eqb (places xs ys h)
unfolding places IsDistinct
places_distinct [] ys h d = tt
places_distinct (x ∷ xs) ys h d =
    IsDistinct-cons eqb h.0.0 (places xs ys h.1)
    (recursion_from_All (λ q. eqb h.0.0 q ≡ false) (places xs ys h.1)
    (each_all (λ q. eqb h.0.0 q ≡ false) (places xs ys h.1) (places_apart x ys h.0.0 h.0.1 h.0.2 xs h.1 (different_head x xs d))))
    (places_distinct xs ys h.1 (different_tail x xs d))

-- different items that stand in a list are no more than it has
pub pigeons : {X : Type 0} (xs ys : List X) → AreDifferent xs → All (Contains ys) xs → length xs ≤ length ys
pigeons xs ys d all =
    let h = all_each (Contains ys) xs all in
    let le : length (places xs ys h) ≤ length ys = length-le_from_distinct_below (places xs ys h) (length ys) (places_distinct xs ys h d) (places_below xs ys h) in
    let e = places_many xs ys h in
    omega arith

-- Sets of leaves

-- where no key equals a later one, all are different
pub distinct_different : {X : Type 0} (eq : X → X → Bool) → IsEquivalence eq → (xs : List X) → IsDistinct eq xs → AreDifferent xs
distinct_different eq laws xs distinct i j d lt le same =
    both_ways (eq (get_or xs i d) (get_or xs j d)) (apart_from_distinct eq xs i j d distinct lt le)
    (ap (λ y. eq (get_or xs i d) y) (sym same) ∙ laws.refl (get_or xs i d))

-- the keys are the different leaves, and no more than n
pub record AreCounted {L : Type 0} (leaves keys : List L) : Type 0 where
  pub shown : All (Contains leaves) keys
  pub covered : All (Contains keys) leaves

pub found : {L : Type 0} (eq : L → L → Bool) → ((x y : L) → eq x y ≡ true → x ≡ y) → (keys : List L) (x : L) → list_any (eq x) keys ≡ true → Contains keys x
found eq exact [] x e = absurd (cc)
found eq exact (y ∷ ys) x e = elim (or_cases (eq x y) (list_any (eq x) ys) e) [
  | inl here ↦ (0, omega arith, sym (exact x y here))
  | inr there ↦ let at = found eq exact ys x there in (suc at.0, let lt : at.0 < length ys = at.1 in omega arith, at.2)
]

-- one more leaf, that was put behind the keys unless it was there
counted_put : {L : Type 0} (leaves keys new : List L) (x : L) → ((new ≡ keys) × Contains keys x) ⊎ (new ≡ keys ++ x ∷ []) → AreCounted leaves keys → AreCounted (leaves ++ x ∷ []) new
counted_put leaves keys new x put old = elim put [
  | inl there ↦ subst (λ ks. AreCounted (leaves ++ x ∷ []) ks) (sym there.0) (record { shown = shown; covered = All-push (Contains keys) leaves x old.covered there.1 })
  | inr behind ↦ subst (λ ks. AreCounted (leaves ++ x ∷ []) ks) (sym behind) (record {
    shown = All-push (Contains (leaves ++ x ∷ [])) keys x shown (Contains-push leaves x);
    covered = All-push (Contains (keys ++ x ∷ [])) leaves x
        (All-weaker (Contains keys) (Contains (keys ++ x ∷ [])) (λ y h. Contains-append_left keys (x ∷ []) y h) leaves old.covered) (Contains-push keys x);
  })
]
  where
    shown : All (Contains (leaves ++ x ∷ [])) keys
    shown = All-weaker (Contains leaves) (Contains (leaves ++ x ∷ [])) (λ y h. Contains-append_left leaves (x ∷ []) y h) keys old.shown

-- and is that of one more place of a list
pub leaf_put : {L : Type 0} (leaves : List L) (at : ℕ) (item : L) (keys new : List L) → at < length leaves → item ≡ get_or leaves at item → IsPut keys new item
    → AreCounted (take at leaves) keys → AreCounted (take (at + 1) leaves) new
leaf_put leaves at item keys new lt is put old =
    subst (λ ls. AreCounted ls new) (ap (λ y. take at leaves ++ y ∷ []) is ∙ sym (take_more leaves at item lt)) (counted_put (take at leaves) keys new item put.put old)

-- a key that was put behind others unless it was there
pub key_put : {X : Type 0} (eq : X → X → Bool) → ((x y : X) → eq x y ≡ true → x ≡ y) → IsEquivalence eq → (old new : List X) (x : X) → new ≡ insert_key eq old x → IsDistinct eq new
    → IsPut old new x
key_put eq exact laws old new x e distinct = record { different = distinct_different eq laws new distinct; put = by (list_any (eq x) old) refl }
  where
    by : (b : Bool) → list_any (eq x) old ≡ b → ((new ≡ old) × Contains old x) ⊎ (new ≡ old ++ x ∷ [])
    by true there = inl (e ∙ cond-true (list_any (eq x) old) old (old ++ x ∷ []) there, found eq exact old x there)
    by false absent = inr (e ∙ cond-false (list_any (eq x) old) old (old ++ x ∷ []) absent)

-- Rows

-- the leaves of one more row
pub leaves_more : {L : Type 0} (rows : List (Row L)) (at : ℕ) (row : Row L) → at < length rows → row ≡ get_or rows at row
    → leaves_of (take (at + 1) rows) ≡ leaves_of (take at rows) ++ row.leaf ∷ []
leaves_more rows at row lt is =
    ap leaves_of (take_more rows at row lt) ∙ map-append (λ r. r.leaf) (take at rows) (get_or rows at row ∷ []) ∙ ap (λ r. leaves_of (take at rows) ++ r.leaf ∷ []) (sym is)

-- rows whose leaves stand among few don't show many
pub few_shown : {L : Type 0} (n : ℕ) (rows : List (Row L)) (keys : List L) → All (Contains keys) (leaves_of rows) → length keys ≤ n → ShowLeavesAbove n rows → ⊥
few_shown n rows keys covered few s =
    let le : length s.leaves ≤ length keys = pigeons s.leaves keys s.different
    (All-weaker (Contains (leaves_of rows)) (Contains keys) (λ x h. All-contains (Contains keys) (leaves_of rows) x covered h) s.leaves s.shown) in
    let many : length s.leaves ≡ n + 1 = s.many in
    omega arith

-- the leaf of one more row, that was put behind the keys unless it was there
pub row_put : {L : Type 0} (rows : List (Row L)) (at : ℕ) (row : Row L) (keys new : List L) → at < length rows → row ≡ get_or rows at row → IsPut keys new row.leaf
    → AreCounted (leaves_of (take at rows)) keys → AreCounted (leaves_of (take (at + 1) rows)) new
row_put rows at row keys new lt is put old = subst (λ ls. AreCounted ls new) (sym (leaves_more rows at row lt is)) (counted_put (leaves_of (take at rows)) keys new row.leaf put.put old)

-- at most one key more
pub one_put : {L : Type 0} (keys new : List L) (x : L) → IsPut keys new x → length new ≤ length keys + 1
one_put keys new x put = elim put.put [
  | inl there ↦ let same : length new ≡ length keys = ap length there.0 in omega arith
  | inr behind ↦ let more : length new ≡ length (keys ++ x ∷ []) = ap length behind in omega (arith, length-append keys (x ∷ []))
]

-- with this row there are more leaves than n
pub first_at : {L : Type 0} (n : ℕ) (rows : List (Row L)) (at : ℕ) (keys new : List L) → at < length rows → AreCounted (leaves_of (take at rows)) keys → length keys ≤ n
    → AreCounted (leaves_of (take (at + 1) rows)) new → AreDifferent new → length new ≤ length keys + 1 → n < length new → IsFirstAbove n rows at
first_at n rows at keys new lt old few counted different more above = record {
  within = lt;
  before = few_shown n (take at rows) keys old.covered few;
  here = record { leaves = new; many = omega arith; different = different; shown = counted.shown };
}

-- all rows were passed
pub none_above : {L : Type 0} (n : ℕ) (rows : List (Row L)) (at : ℕ) (keys : List L) → length rows ≤ at → AreCounted (leaves_of (take at rows)) keys → length keys ≤ n
    → ShowLeavesAbove n rows → ⊥
none_above n rows at keys le counted few =
    few_shown n rows keys (subst (λ l. All (Contains keys) (leaves_of l)) (take_all at rows le) counted.covered) few

-- what rows show, more rows show
pub more_rows : {L : Type 0} (n : ℕ) (rows more : List (Row L)) → ShowLeavesAbove n rows → ShowLeavesAbove n (rows ++ more)
more_rows n rows more s = record {
  leaves = s.leaves;
  many = s.many;
  different = s.different;
  shown = subst (λ ls. All (Contains ls) s.leaves) (sym (map-append (λ r. r.leaf) rows more))
      (All-weaker (Contains (leaves_of rows)) (Contains (leaves_of rows ++ leaves_of more)) (λ x h. Contains-append_left (leaves_of rows) (leaves_of more) x h) s.leaves s.shown);
}

-- the leaves of a tree's rows are among those that its nodes name
mutual
  pub rows_named : {L : Type 0} (leaves : List L) (sides : List (List Iv)) (t : Plain ℕ) → All (Contains leaves) (leaves_of (paths_below sides (relabel leaves t)))
  rows_named {L} leaves sides (leaf n) = by (slice_get leaves n) refl
    where
      by : (o : Option L) → slice_get leaves n ≡ o → All (Contains leaves) (leaves_of (paths_below sides (named_leaf o)))
      by None e = All-nil _
      by (Some a) e = All-cons (Contains leaves) a [] (n, slice_get_within leaves n a e, get_or_from_slice_get leaves n a a e) (All-nil _)
  rows_named leaves sides (cut f ks) = kid_rows_named leaves sides f ks

  kid_rows_named : {L : Type 0} (leaves : List L) (sides : List (List Iv)) (f : ℕ) (ks : Kids ℕ) → All (Contains leaves) (leaves_of (paths_through sides f (relabel_kids leaves ks)))
  kid_rows_named leaves sides f none = All-nil _
  kid_rows_named leaves sides f (kid s t ks) =
      subst (λ ls. All (Contains leaves) ls) (sym (map-append (λ r. r.leaf) (paths_below (slice_set sides f s) (relabel leaves t)) (paths_through sides f (relabel_kids leaves ks))))
      (All-append (Contains leaves) _ _ (rows_named leaves (slice_set sides f s) t) (kid_rows_named leaves sides f ks))

-- a tree with few leaves shows few
pub few_leaves : {L : Type 0} (n : ℕ) (tops : List ℕ) (t : Plain L) (leaves : List L) (nodes : List Node) → IsShared tops t leaves nodes → length leaves ≤ n
    → ShowLeavesAbove n (paths_of tops t) → ⊥
few_leaves n tops t leaves nodes shared few =
    few_shown n (paths_of tops t) leaves
    (subst (λ u. All (Contains leaves) (leaves_of (paths_of tops u))) (sym shared.last) (rows_named leaves (whole_sides tops) (tree_of nodes (length nodes - 1)))) few
