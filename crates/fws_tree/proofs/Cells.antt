-- What cells hold, by their numbers.
use Rattle.std.proofs.Common.{◌≡◌, Bool, true, false, cond, ℕ, zero, suc, ◌+◌, ◌<◌, ◌≤◌, zero-add, List, [], ◌∷◌, ◌++◌, length, get_or, nat_le, inl, inr, refl, sym, ◌∙◌, ap, subst, arith, length-append, Some, slice_get, All, append_assoc}
use Rattle.std.proofs.lemmas.Grind.{common_steps}
use Rattle.std.proofs.lemmas.List.{append-nil}
use Rattle.std.proofs.lemmas.Bool.{cases_Bool}
use Rattle.std.proofs.lemmas.Option.{slice_get_within, get_or_from_slice_get}
use Rattle.fws_tree.specs.declared.store.Step.{Step}
use Rattle.fws_tree.specs.declared.store.Cell.{Cell}
use Rattle.fws_tree.specs.declared.store.Cell.TheVariants.{Leaf, Cut}
use Rattle.fws_tree.specs.Building.{Extends}
use Rattle.fws_tree.specs.Held.{child_at, held_over, held_after, held_at, IsCellBelow, AreOrderedFrom}

-- the cell that a value leads to is one of those named
pub child_has : (P : ℕ → Type 0) (ss : List Step) (last x : ℕ) → All (λ s. P s.node) ss → P last → P (child_at ss last x)
child_has P [] last x all l = l
child_has P (s ∷ ss) last x all l = elim (cases_Bool (nat_le x s.hi)) [
  | inl t ↦ rw t (all 0 s (omega arith))
  | inr f ↦ rw f (child_has P ss last x (λ k d lt. all (suc k) d (omega arith)) l)
]

at_front : (ts us : List ℕ) (i : ℕ) → i < length ts → get_or (ts ++ us) i 0 ≡ get_or ts i 0
at_front ts us i h = grind (arith, common_steps)

at_end : (ts : List ℕ) (t : ℕ) → get_or (ts ++ t ∷ []) (length ts) 0 ≡ t
at_end ts t = grind (arith, common_steps)

-- later cells leave what the earlier ones hold
kept : (p ts : List ℕ) (cs : List Cell) (i : ℕ) → i < length ts → get_or (held_after p ts cs) i 0 ≡ get_or ts i 0
kept p ts [] i h = refl
kept p ts (c ∷ cs) i h =
    let l : i < length (ts ++ held_over p ts c ∷ []) = omega (arith, length-append ts (held_over p ts c ∷ [])) in
    kept p (ts ++ held_over p ts c ∷ []) cs i l ∙ at_front ts (held_over p ts c ∷ []) i h

held_after-append : (p ts : List ℕ) (cs ds : List Cell) → held_after p ts (cs ++ ds) ≡ held_after p (held_after p ts cs) ds
held_after-append p ts [] ds = refl
held_after-append p ts (c ∷ cs) ds = held_after-append p (ts ++ held_over p ts c ∷ []) cs ds

length-held_after : (p ts : List ℕ) (cs : List Cell) → length (held_after p ts cs) ≡ length ts + length cs
length-held_after p ts [] = omega arith
length-held_after p ts (c ∷ cs) = omega (arith, length-held_after p (ts ++ held_over p ts c ∷ []) cs, length-append ts (held_over p ts c ∷ []))

held-append : (cs ds : List Cell) (i : ℕ) (p : List ℕ) → i < length cs → held_at (cs ++ ds) i p ≡ held_at cs i p
held-append cs ds i p h =
    let l : i < length (held_after p [] cs) = omega (arith, length-held_after p [] cs) in
    ap (λ ts. get_or ts i 0) (held_after-append p [] cs ds) ∙ kept p (held_after p [] cs) ds i l

-- what a cell holds stays when cells are added behind
pub held-extends : (cs ds : List Cell) (i : ℕ) (p : List ℕ) → Extends cs ds → i < length cs → held_at ds i p ≡ held_at cs i p
held-extends cs ds i p e lt = ap (λ xs. held_at xs i p) e.1 ∙ held-append cs e.0 i p lt

pub length-extends : (cs ds : List Cell) → Extends cs ds → length cs ≤ length ds
length-extends cs ds e = let l : length ds ≡ length cs + length e.0 = ap (λ (xs : List Cell). length xs) e.1 ∙ length-append cs e.0 in omega arith

pub extends-refl : {X : Type 0} (xs : List X) → Extends xs xs
extends-refl xs = ([], sym (append-nil xs))

pub extends-trans : {X : Type 0} (xs ys zs : List X) → Extends xs ys → Extends ys zs → Extends xs zs
extends-trans xs ys zs a b = (a.0 ++ b.0, b.1 ∙ ap (λ t. t ++ b.0) a.1 ∙ append_assoc xs a.0 b.0)

cell_same : (p ts us : List ℕ) (n : ℕ) → ((i : ℕ) → i < n → get_or us i 0 ≡ get_or ts i 0) → (c : Cell) → IsCellBelow n c → held_over p us c ≡ held_over p ts c
cell_same p ts us n e (Leaf a) h = refl
cell_same p ts us n e (Cut f ss last) h = e (child_at ss last (get_or p f 0)) (child_has (λ k. k < n) ss last (get_or p f 0) h.0 h.1)

cell_from : (p ts : List ℕ) (cs : List Cell) → AreOrderedFrom (length ts) cs → (j : ℕ) → j < length cs
    → get_or (held_after p ts cs) (length ts + j) 0 ≡ held_over p (held_after p ts cs) (get_or cs j (Leaf 0))
cell_from p ts [] h j lt = absurd (omega arith)
cell_from p ts (c ∷ cs) h zero lt =
    let us : List ℕ = ts ++ held_over p ts c ∷ [] in
    let l : length us ≡ suc (length ts) = omega (arith, length-append ts (held_over p ts c ∷ [])) in
    let here : length ts + 0 < length us = omega arith in
    let z : length ts + 0 ≡ length ts = omega arith in
    kept p us cs (length ts + 0) here ∙ ap (λ k. get_or us k 0) z ∙ at_end ts (held_over p ts c)
    ∙ sym (cell_same p ts (held_after p us cs) (length ts) (λ i lt'. let m : i < length us = omega arith in kept p us cs i m ∙ at_front ts (held_over p ts c ∷ []) i lt') c h.0)
cell_from p ts (c ∷ cs) h (suc j) lt =
    let us : List ℕ = ts ++ held_over p ts c ∷ [] in
    let l : length us ≡ suc (length ts) = omega (arith, length-append ts (held_over p ts c ∷ [])) in
    let e : length ts + suc j ≡ length us + j = omega arith in
    ap (λ k. get_or (held_after p us cs) k 0) e ∙ cell_from p us cs (subst (λ k. AreOrderedFrom k cs) (sym l) h.1) j (omega arith)

-- what a cell holds, by what those that it names hold
pub held_cell : (cs : List Cell) (at : ℕ) (c : Cell) (p : List ℕ) → AreOrderedFrom 0 cs → slice_get cs at ≡ Some c → held_at cs at p ≡ held_over p (held_after p [] cs) c
held_cell cs at c p h is =
    let z : at ≡ 0 + at = omega arith in
    ap (λ k. get_or (held_after p [] cs) k 0) z ∙ cell_from p [] cs h at (slice_get_within cs at c is)
    ∙ ap (λ d. held_over p (held_after p [] cs) d) (get_or_from_slice_get cs at c (Leaf 0) is)

ordered_at : (n : ℕ) (cs : List Cell) (j : ℕ) → AreOrderedFrom n cs → j < length cs → IsCellBelow (n + j) (get_or cs j (Leaf 0))
ordered_at n [] j h lt = absurd (omega arith)
ordered_at n (x ∷ xs) zero h lt = let z : n ≡ n + 0 = omega arith in subst (λ k. IsCellBelow k x) z h.0
ordered_at n (x ∷ xs) (suc j) h lt = let e : suc n + j ≡ n + suc j = omega arith in
    subst (λ k. IsCellBelow k (get_or xs j (Leaf 0))) e (ordered_at (suc n) xs j h.1 (omega arith))

-- each cell names cells below it
pub cell_below : (cs : List Cell) (at : ℕ) (c : Cell) → AreOrderedFrom 0 cs → slice_get cs at ≡ Some c → IsCellBelow at c
cell_below cs at c h is = subst (λ d. IsCellBelow at d) (get_or_from_slice_get cs at c (Leaf 0) is) (rw zero-add at (ordered_at 0 cs at h (slice_get_within cs at c is)))

-- The cells after one was stored.

ordered-push : (n : ℕ) (cs : List Cell) (x : Cell) → AreOrderedFrom n cs → IsCellBelow (n + length cs) x → AreOrderedFrom n (cs ++ x ∷ [])
ordered-push n [] x h b = let z : n + 0 ≡ n = omega arith in (subst (λ k. IsCellBelow k x) z b, tt)
ordered-push n (y ∷ cs) x h b = let e : n + suc (length cs) ≡ suc n + length cs = omega arith in
    (h.0, ordered-push (suc n) cs x h.1 (subst (λ k. IsCellBelow k x) e b))

pub record Stored (old new : List Cell) (x : Cell) : Type 0 where
  pub ordered : AreOrderedFrom 0 new
  pub extends : Extends old new
  pub same : (p : List ℕ) → held_over p (held_after p [] new) x ≡ held_over p (held_after p [] old) x

pub stored : (old inner new : List Cell) (x : Cell) (b : Bool) → inner ≡ old → AreOrderedFrom 0 old → IsCellBelow (length old) x → new ≡ cond b (inner ++ x ∷ []) inner → Stored old new x
stored old inner new x b v a below e = by b (e ∙ ap (λ ns. cond b (ns ++ x ∷ []) ns) v)
  where
    by : (b : Bool) → new ≡ cond b (old ++ x ∷ []) old → Stored old new x
    by true e =
        let z : length old ≡ 0 + length old = omega arith in
        record {
          ordered = subst (λ ns. AreOrderedFrom 0 ns) (sym e) (ordered-push 0 old x a (subst (λ k. IsCellBelow k x) z below));
          extends = (x ∷ [], e);
          same = λ p. cell_same p (held_after p [] old) (held_after p [] new) (length old) (λ i lt. ap (λ ns. held_at ns i p) e ∙ held-append old (x ∷ []) i p lt) x below;
        }
    by false e = record {
      ordered = subst (λ ns. AreOrderedFrom 0 ns) (sym e) a;
      extends = subst (λ ns. Extends old ns) (sym e) (extends-refl old);
      same = λ p. ap (λ ns. held_over p (held_after p [] ns) x) e;
    }

pub stored_held : (old new : List Cell) (x : Cell) (i place : ℕ) (p : List ℕ) → Stored old new x → i ≡ place → slice_get new place ≡ Some x → held_at new i p ≡ held_over p (held_after p [] old) x
stored_held old new x i place p s z at = ap (λ k. held_at new k p) z ∙ held_cell new place x p s.ordered at ∙ s.same p
