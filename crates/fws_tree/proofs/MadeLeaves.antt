-- Leaves made of others.
use Rattle.std.proofs.Common.{◌≡◌, ℕ, zero, suc, ◌+◌, ◌<◌, ◌≤◌, List, [], ◌∷◌, ◌++◌, length, get_or, nat_lt, inl, inr, Some, slice_get, refl, sym, ◌∙◌, ap, subst, arith, length-append, zero-add}
use Rattle.std.proofs.lemmas.Bool.{cases_Bool}
use Rattle.std.proofs.lemmas.Bool.Decides.{nat_tests}
use Rattle.std.proofs.lemmas.List.{get_or_push, get_or_append_left}
use Rattle.std.proofs.lemmas.List.FromFn.{get_or-range_with_len}
use Rattle.std.proofs.lemmas.Option.{slice_get_within, slice_get-get_or}
use Rattle.std.specs.List.{range_with_len}
use Rattle.fws_tree.specs.Building.{Extends}
use Rattle.fws_tree.proofs.LeafNumbers.{slice_get-extends}

-- the leaf that is made of each of the first ones stands at its place
pub record AreMade {L M : Type 0} (gives : L → M) (leaves : List L) (made : List M) (places : List ℕ) (i : ℕ) : Type 0 where
  pub many : length places ≡ i
  pub there : (n : ℕ) (a : L) → n < i → slice_get leaves n ≡ Some a → slice_get made (get_or places n 0) ≡ Some (gives a)

pub made-next : {L M : Type 0} (gives : L → M) (leaves : List L) (old new : List M) (places more : List ℕ) (i k : ℕ) (a : L) (b : M) → AreMade gives leaves old places i → Extends old new → a ≡ get_or leaves i a → i < length leaves
    → b ≡ gives a → slice_get new k ≡ Some b → more ≡ places ++ k ∷ [] → AreMade gives leaves new more (i + 1)
made-next gives leaves old new places more i k a b m e is lt given at pushed = subst (λ ps. AreMade gives leaves new ps (i + 1)) (sym pushed) (record {
  many = length-append places (k ∷ []) ∙ ap (λ n. n + 1) m.many;
  there = λ n z ln at-n. elim (cases_Bool (nat_lt n i)) [
    | inl t ↦ (
        let l : n < i = grind (arith, nat_tests) in
        let many = m.many in
        let lp : n < length places = omega arith in
        ap (slice_get new) (get_or_append_left places (k ∷ []) 0 n lp) ∙ slice_get-extends old new (get_or places n 0) (gives z) e (m.there n z l at-n))
    | inr f ↦ (
        let many = m.many in
        let en : length places ≡ n = grind (arith, nat_tests) in
        let ni : n ≡ i = omega arith in
        let same : Some a ≡ Some z = ap Some is ∙ sym (slice_get-get_or leaves i a lt) ∙ ap (slice_get leaves) (sym ni) ∙ at-n in
        let za : a ≡ z = cc in
        ap (slice_get new) (get_or_push places k 0 n en) ∙ at ∙ ap Some (given ∙ ap gives za))
  ];
})

pub made-all : {L M : Type 0} (gives : L → M) (leaves : List L) (made : List M) (places : List ℕ) (i : ℕ) → AreMade gives leaves made places i → length leaves ≤ i → (n : ℕ) (a : L) → slice_get leaves n ≡ Some a → slice_get made (get_or places n 0) ≡ Some (gives a)
made-all gives leaves made places i m le n a at = let l = slice_get_within leaves n a at in m.there n a (omega arith) at

pub slice_there : {X : Type 0} (xs : List X) (i : ℕ) → i < length xs → (x : X) × (slice_get xs i ≡ Some x)
slice_there [] i lt = absurd (omega arith)
slice_there (x ∷ xs) zero lt = (x, refl)
slice_there (x ∷ xs) (suc i) lt = slice_there xs i (omega arith)

-- the place of a value among places that are counted is the value
pub counted_at : (cs : List ℕ) (count k : ℕ) → cs ≡ range_with_len 0 count → k < count → get_or cs k 0 ≡ k
counted_at cs count k e lt = ap (λ xs. get_or xs k 0) e ∙ get_or-range_with_len 0 count k 0 lt ∙ zero-add k

-- the leaf of a value stands at the value's place
pub placed_leaf : {L : Type 0} (leaves made all slice : List L) (values plain : List ℕ) (v : ℕ) → v < length leaves → ((n : ℕ) (a : L) → slice_get leaves n ≡ Some a → slice_get made (get_or values n 0) ≡ Some a)
    → all ≡ made → slice ≡ all → plain ≡ values → (slice_get slice (get_or plain v 0) ≡ slice_get leaves v) × (get_or plain v 0 < length slice)
placed_leaf leaves made all slice values plain v lt places a s p =
    let x = slice_there leaves v lt in
    let there : slice_get slice (get_or plain v 0) ≡ Some x.0 = ap (λ xs. slice_get xs (get_or plain v 0)) (s ∙ a) ∙ ap (λ vs. slice_get made (get_or vs v 0)) p ∙ places v x.0 x.1 in
    (there ∙ sym x.1, slice_get_within slice (get_or plain v 0) x.0 there)
