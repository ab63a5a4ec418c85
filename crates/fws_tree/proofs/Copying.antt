-- Copies of cells.
use Rattle.std.proofs.Common.{◌≡◌, cond, ℕ, ◌+◌, ◌<◌, ◌≤◌, List, [], ◌∷◌, ◌++◌, length, get_or, take, nat_le, nat_eq, Some, None, inl, inr, refl, sym, ◌∙◌, ap, subst, arith, All}
use Rattle.std.proofs.lemmas.Bool.{cases_Bool, and_parts, eqb-true, cond-true, cond-false}
use Rattle.std.proofs.lemmas.List.{take_all, take_more}
use Rattle.std.specs.HashMap.{get, Updates}
use Rattle.fws_tree.specs.declared.memo.Memo.{Memo}
use Rattle.fws_tree.specs.declared.store.Step.{Step}
use Rattle.fws_tree.specs.declared.store.Cell.{Cell}
use Rattle.fws_tree.specs.Building.{Extends}
use Rattle.fws_tree.specs.Copied.{AreCopied}
use Rattle.fws_tree.specs.Held.{child_at, held_at, pair_eq, pick}
use Rattle.fws_tree.proofs.Cells.{held-extends, length-extends}
use Rattle.fws_tree.proofs.Steps.{pick_child, pick-push, pick_same}

pub copied-none : (cells fresh : List Cell) (m : Memo) → ((a b : ℕ) → get pair_eq m.found (a, b) ≡ None) → AreCopied cells fresh m
copied-none cells fresh m none k at r is = let e : None ≡ Some r = sym (none k at) ∙ is in absurd (cc)

pub copied-extends : (cells old new : List Cell) (m : Memo) → Extends old new → AreCopied cells old m → AreCopied cells new m
copied-extends cells old new m e known k at r is =
    let h = known k at r is in
    let inside = h.0 in
    let l = length-extends old new e in
    (omega arith, λ p. held-extends old new r p e inside ∙ h.1 p)

pub copied-note : (cells fresh : List Cell) (m n : Memo) (a b r : ℕ) → AreCopied cells fresh m → Updates pair_eq m.found n.found (a, b) (Some r) → r < length fresh → ((p : List ℕ) → held_at fresh r p ≡ held_at cells b p) → AreCopied cells fresh n
copied-note cells fresh m n a b r known u inside here x y z is = elim (cases_Bool (pair_eq (a, b) (x, y))) [
  | inl t ↦ (
      let p = and_parts (nat_eq a x) (nat_eq b y) t in
      let ey : b ≡ y = eqb-true b y p.1 in
      let s : Some r ≡ Some z = sym (cond-true (pair_eq (a, b) (x, y)) (Some r) (get pair_eq m.found (x, y)) t) ∙ sym (u.0 (x, y)) ∙ is in
      let ez : r ≡ z = cc in
      (subst (λ k. k < length fresh) ez inside, λ q. ap (λ k. held_at fresh k q) (sym ez) ∙ here q ∙ ap (λ k. held_at cells k q) ey))
  | inr f ↦ known x y z (sym (cond-false (pair_eq (a, b) (x, y)) (Some r) (get pair_eq m.found (x, y)) f) ∙ sym (u.0 (x, y)) ∙ is)
]

-- the steps so far, copied
pub record AreStepsCopied (cells fresh : List Cell) (ss ts : List Step) : Type 0 where
  pub below : All (λ s. s.node < length fresh) ts
  pub held : (p : List ℕ) (z x : ℕ) → pick (λ n. held_at fresh n p) ts z x ≡ pick (λ n. held_at cells n p) ss z x

pub steps-none : (cells fresh : List Cell) → AreStepsCopied cells fresh [] []
steps-none cells fresh = record { below = λ k d lt. absurd (omega arith); held = λ p z x. refl }

pub steps-extends : (cells old new : List Cell) (ss ts : List Step) → Extends old new → AreStepsCopied cells old ss ts → AreStepsCopied cells new ss ts
steps-extends cells old new ss ts e m = record {
  below = λ k d lt. let l = m.below k d lt in let g = length-extends old new e in omega arith;
  held = λ p z x. pick_same (λ n. held_at new n p) (λ n. held_at old n p) ts z x (λ k d lt. held-extends old new (get_or ts k d).node p e (m.below k d lt)) ∙ m.held p z x;
}

pub steps-next : (cells old new : List Cell) (ss : List Step) (i : ℕ) (d : Step) (ts us : List Step) (n : ℕ) → i < length ss → Extends old new → AreStepsCopied cells old (take i ss) ts
    → ((p : List ℕ) → held_at new n p ≡ held_at cells (get_or ss i d).node p) → n < length new
    → ((m : ℕ) → All (λ s. s.node < m) ts → n < m → All (λ s. s.node < m) us) → ((v : ℕ → ℕ) (z x : ℕ) → pick v us z x ≡ pick v (ts ++ record { hi = (get_or ss i d).hi; node = n } ∷ []) z x)
    → AreStepsCopied cells new (take (i + 1) ss) us
steps-next cells old new ss i d ts us n lt e m here inside below same =
    let longer : AreStepsCopied cells new (take i ss) ts = steps-extends cells old new (take i ss) ts e m in
    let s : Step = get_or ss i d in
    subst (λ xs. AreStepsCopied cells new xs us) (sym (take_more ss i d lt)) (record {
      below = below (length new) longer.below inside;
      held = λ p z x.
          let v : ℕ → ℕ = λ k. held_at new k p in
          let w : ℕ → ℕ = λ k. held_at cells k p in
          same v z x ∙ pick-push v ts (record { hi = s.hi; node = n }) z x ∙ longer.held p (cond (nat_le x s.hi) (v n) z) x
          ∙ ap (λ a. pick w (take i ss) (cond (nat_le x s.hi) a z) x) (here p) ∙ sym (pick-push w (take i ss) s z x);
    })

pub steps-all : (cells old new : List Cell) (ss : List Step) (i : ℕ) (ts : List Step) → AreStepsCopied cells old (take i ss) ts → length ss ≤ i → Extends old new → AreStepsCopied cells new ss ts
steps-all cells old new ss i ts m le e = steps-extends cells old new ss ts e (subst (λ xs. AreStepsCopied cells old xs ts) (take_all i ss le) m)

pub copied_cut : (cells mid new : List Cell) (at f last copy n : ℕ) (ss ts : List Step) (p : List ℕ) → AreStepsCopied cells mid ss ts → ((q : List ℕ) → held_at mid copy q ≡ held_at cells last q)
    → held_at cells at p ≡ held_at cells (child_at ss last (get_or p f 0)) p → held_at new n p ≡ held_at mid (child_at ts copy (get_or p f 0)) p → held_at new n p ≡ held_at cells at p
copied_cut cells mid new at f last copy n ss ts p m lasts seen cut =
    let x : ℕ = get_or p f 0 in
    let v : ℕ → ℕ = λ k. held_at mid k p in
    let w : ℕ → ℕ = λ k. held_at cells k p in
    cut ∙ pick_child v ts copy x ∙ ap (λ z. pick v ts z x) (lasts p) ∙ m.held p (w last) x ∙ sym (pick_child w ss last x) ∙ sym seen
