-- Pairs of places that were met, and their leaves.
use Rattle.std.proofs.Common.{◌≡◌, ℕ, ◌+◌, ◌<◌, Bool, true, false, cond, nat_lt, List, [], ◌∷◌, ◌++◌, inl, inr, length, get_or, Option, Some, slice_get, sym, ◌∙◌, ap, subst, arith, length-append}
use Rattle.std.proofs.lemmas.Bool.{cases_Bool}
use Rattle.std.proofs.lemmas.Bool.Decides.{nat_tests}
use Rattle.std.proofs.lemmas.List.{append-nil, get_or_push, get_or_append_left}
use Rattle.std.proofs.lemmas.Option.{slice_get-get_or, slice_get_within}
use Rattle.std.specs.List.{range_with_len}
use Rattle.fws_tree.specs.Building.{Extends}
use Rattle.fws_tree.specs.Paired.{AreLeavesOf}
use Rattle.fws_tree.proofs.LeafNumbers.{slice_get-extends}
use Rattle.fws_tree.proofs.MadeLeaves.{counted_at, slice_there}

pub extends_if : {X : Type 0} (xs ys : List X) (x : X) (b : Bool) → ys ≡ cond b (xs ++ x ∷ []) xs → Extends xs ys
extends_if xs ys x true e = (x ∷ [], e)
extends_if xs ys x false e = ([], e ∙ sym (append-nil xs))

pub leaves-next : {L M : Type 0} (first : List L) (second : List M) (pairs : List (ℕ × ℕ)) (old new : List (L × M)) (places more : List ℕ) (i place : ℕ) (d : ℕ × ℕ) (o : Option (L × M)) → AreLeavesOf first second pairs old places i → Extends old new → i < length pairs
    → ((a : L) (b : M) → slice_get first (get_or pairs i d).0 ≡ Some a → slice_get second (get_or pairs i d).1 ≡ Some b → o ≡ Some (a, b)) → ((z : L × M) → o ≡ Some z → slice_get new place ≡ Some z) → more ≡ places ++ place ∷ []
    → AreLeavesOf first second pairs new more (i + 1)
leaves-next first second pairs old new places more i place d o m e lt leaf there pushed = subst (λ ps. AreLeavesOf first second pairs new ps (i + 1)) (sym pushed) (record {
  many = length-append places (place ∷ []) ∙ ap (λ n. n + 1) m.many;
  there = λ k pair lk at a b ha hb. let many = m.many in elim (cases_Bool (nat_lt k i)) [
    | inl t ↦ (
        let l : k < i = grind (arith, nat_tests) in
        let lp : k < length places = omega arith in
        ap (slice_get new) (get_or_append_left places (place ∷ []) 0 k lp) ∙ slice_get-extends old new (get_or places k 0) (a, b) e (m.there k pair l at a b ha hb))
    | inr f ↦ (
        let en : length places ≡ k = grind (arith, nat_tests) in
        let ki : k ≡ i = omega arith in
        let s : Some (get_or pairs i d) ≡ Some pair = sym (slice_get-get_or pairs i d lt) ∙ ap (slice_get pairs) (sym ki) ∙ at in
        let g : get_or pairs i d ≡ pair = cc in
        ap (slice_get new) (get_or_push places place 0 k en) ∙ there (a, b) (leaf a b (ap (λ z. slice_get first z.0) g ∙ ha) (ap (λ z. slice_get second z.1) g ∙ hb)))
  ];
})

-- what a tree's cell holds at a point: the place of the leaf there
pub record IsPlaceOf {L : Type 0} (leaves : List L) (v : Option L) (held : ℕ) : Type 0 where
  pub leaf : L
  pub is : v ≡ Some leaf
  pub at : slice_get leaves held ≡ Some leaf

pub place_of_loaded : {L : Type 0} (leaves : List L) (v : Option L) (held n : ℕ) (counts slice : List ℕ) → v ≡ slice_get leaves n → n < length leaves → held ≡ get_or slice n 0 → slice ≡ counts → counts ≡ range_with_len 0 (length leaves) → IsPlaceOf leaves v held
place_of_loaded leaves v held n counts slice is lt at s c =
    let a = slice_there leaves n lt in
    let e : held ≡ n = at ∙ counted_at slice (length leaves) n (s ∙ c) lt in
    record { leaf = a.0; is = is ∙ a.1; at = ap (slice_get leaves) e ∙ a.1 }

-- the leaf of a pair stands at its place
pub pair_there : {L M : Type 0} (first : List L) (second : List M) (pairs : List (ℕ × ℕ)) (made slice : List (L × M)) (places plain : List ℕ) (k x y : ℕ) (a : L) (b : M) → AreLeavesOf first second pairs made places (length pairs)
    → slice_get pairs k ≡ Some (x, y) → slice_get first x ≡ Some a → slice_get second y ≡ Some b → slice ≡ made → plain ≡ places → slice_get slice (get_or plain k 0) ≡ Some (a, b)
pair_there first second pairs made slice places plain k x y a b leaves at ha hb si pl =
    ap (λ xs. slice_get xs (get_or plain k 0)) si ∙ ap (λ ps. slice_get made (get_or ps k 0)) pl ∙ leaves.there k (x, y) (slice_get_within pairs k (x, y) at) at a b ha hb
