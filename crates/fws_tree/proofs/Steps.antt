-- Steps one behind the other.
use Rattle.std.proofs.Common.{◌≡◌, Bool, true, false, cond, ℕ, zero, suc, ◌+◌, ◌<◌, ◌≤◌, List, [], ◌∷◌, ◌++◌, length, get_or, set, take, nat_le, inl, inr, refl, sym, ◌∙◌, ap, subst, arith, All, Some, slice_get, ◌≢◌, nat_eq}
use Rattle.std.proofs.lemmas.Bool.{cases_Bool, cond-false, ne_eqb, le-leb, leb-true}
use Rattle.fws_tree.specs.declared.store.Step.{Step}
use Rattle.fws_tree.specs.declared.store.Cell.{Cell}
use Rattle.fws_tree.specs.declared.store.Cell.TheVariants.{Leaf, Cut}
use Rattle.fws_tree.specs.declared.together.Both.{Both}
use Rattle.fws_tree.specs.Held.{child_at, held_at, AreOrderedFrom, IsCellBelow, pick, over_leaf}
use Rattle.fws_tree.specs.Merged.{left_at, right_at}
use Rattle.fws_tree.proofs.Cells.{held_cell, cell_below}

pub left_at-push : (bs : List Both) (b : Both) (z x : ℕ) → left_at (bs ++ b ∷ []) z x ≡ left_at bs (cond (nat_le x b.hi) b.left z) x
left_at-push [] b z x = refl
left_at-push (a ∷ bs) b z x = ap (λ r. cond (nat_le x a.hi) a.left r) (left_at-push bs b z x)

pub right_at-push : (bs : List Both) (b : Both) (z x : ℕ) → right_at (bs ++ b ∷ []) z x ≡ right_at bs (cond (nat_le x b.hi) b.right z) x
right_at-push [] b z x = refl
right_at-push (a ∷ bs) b z x = ap (λ r. cond (nat_le x a.hi) a.right r) (right_at-push bs b z x)

pub view_held : (cs : List Cell) (at f g last : ℕ) (ss ts : List Step) (c : Cell) (p : List ℕ) → AreOrderedFrom 0 cs → slice_get cs at ≡ Some c → c ≡ Cut f ss last → f ≡ g → ts ≡ ss
    → held_at cs at p ≡ held_at cs (child_at ts last (get_or p g 0)) p
view_held cs at f g last ss ts c p h is e same there =
    held_cell cs at (Cut f ss last) p h (is ∙ ap Some e) ∙ ap (λ k. held_at cs (child_at ss last (get_or p k 0)) p) same ∙ ap (λ us. held_at cs (child_at us last (get_or p g 0)) p) (sym there)

pub view_below : (cs : List Cell) (at f last : ℕ) (ss ts : List Step) (c : Cell) → AreOrderedFrom 0 cs → slice_get cs at ≡ Some c → c ≡ Cut f ss last → ts ≡ ss
    → All (λ s. s.node < at) ts × (last < at)
view_below cs at f last ss ts c h is e there =
    let b : IsCellBelow at (Cut f ss last) = cell_below cs at (Cut f ss last) h (is ∙ ap Some e) in
    (subst (λ us. All (λ s. s.node < at) us) (sym there) b.0, b.1)

-- Two cells together.

pub meet_held : (cs : List Cell) (a k l : ℕ) (p : List ℕ) → held_at cs a p ≡ held_at cs k p → l ≡ k → held_at cs a p ≡ held_at cs l p
meet_held cs a k l p h e = h ∙ sym (ap (λ n. held_at cs n p) e)

-- What is picked.

pub pick_child : (v : ℕ → ℕ) (ss : List Step) (last x : ℕ) → v (child_at ss last x) ≡ pick v ss (v last) x
pick_child v [] last x = refl
pick_child v (s ∷ ss) last x = elim (cases_Bool (nat_le x s.hi)) [
  | inl t ↦ rw t refl
  | inr f ↦ rw f (pick_child v ss last x)
]

pub pick-push : (v : ℕ → ℕ) (ss : List Step) (s : Step) (z x : ℕ) → pick v (ss ++ s ∷ []) z x ≡ pick v ss (cond (nat_le x s.hi) (v s.node) z) x
pick-push v [] s z x = refl
pick-push v (t ∷ ss) s z x = ap (λ r. cond (nat_le x t.hi) (v t.node) r) (pick-push v ss s z x)

pub pick_same : (v w : ℕ → ℕ) (ss : List Step) (z x : ℕ) → All (λ s. v s.node ≡ w s.node) ss → pick v ss z x ≡ pick w ss z x
pick_same v w [] z x all = refl
pick_same v w (s ∷ ss) z x all = ap (λ r. cond (nat_le x s.hi) r (pick v ss z x)) (all 0 s (omega arith))
    ∙ ap (λ r. cond (nat_le x s.hi) (w s.node) r) (pick_same v w ss z x (λ k d lt. all (suc k) d (omega arith)))

-- the same for the sides of steps over two cells
abbrev pub pick_left : (ℕ → ℕ) → List Both → ℕ → ℕ → ℕ
pick_left v [] z x = z
pick_left v (s ∷ ss) z x = cond (nat_le x s.hi) (v s.left) (pick_left v ss z x)

abbrev pub pick_right : (ℕ → ℕ) → List Both → ℕ → ℕ → ℕ
pick_right v [] z x = z
pick_right v (s ∷ ss) z x = cond (nat_le x s.hi) (v s.right) (pick_right v ss z x)

pub pick_left_at : (v : ℕ → ℕ) (ss : List Both) (last x : ℕ) → v (left_at ss last x) ≡ pick_left v ss (v last) x
pick_left_at v [] last x = refl
pick_left_at v (s ∷ ss) last x = elim (cases_Bool (nat_le x s.hi)) [
  | inl t ↦ rw t refl
  | inr f ↦ rw f (pick_left_at v ss last x)
]

pub pick_right_at : (v : ℕ → ℕ) (ss : List Both) (last x : ℕ) → v (right_at ss last x) ≡ pick_right v ss (v last) x
pick_right_at v [] last x = refl
pick_right_at v (s ∷ ss) last x = elim (cases_Bool (nat_le x s.hi)) [
  | inl t ↦ rw t refl
  | inr f ↦ rw f (pick_right_at v ss last x)
]

pub pick_left-push : (v : ℕ → ℕ) (ss : List Both) (s : Both) (z x : ℕ) → pick_left v (ss ++ s ∷ []) z x ≡ pick_left v ss (cond (nat_le x s.hi) (v s.left) z) x
pick_left-push v [] s z x = refl
pick_left-push v (t ∷ ss) s z x = ap (λ r. cond (nat_le x t.hi) (v t.left) r) (pick_left-push v ss s z x)

pub pick_right-push : (v : ℕ → ℕ) (ss : List Both) (s : Both) (z x : ℕ) → pick_right v (ss ++ s ∷ []) z x ≡ pick_right v ss (cond (nat_le x s.hi) (v s.right) z) x
pick_right-push v [] s z x = refl
pick_right-push v (t ∷ ss) s z x = ap (λ r. cond (nat_le x t.hi) (v t.right) r) (pick_right-push v ss s z x)

-- One cell over another.

pub over_shows : (cs : List Cell) (a b n : ℕ) (c : Cell) (p : List ℕ) → AreOrderedFrom 0 cs → slice_get cs a ≡ Some c → c ≡ Leaf n → n ≡ 0 → held_at cs b p ≡ over_leaf (held_at cs a p) (held_at cs b p)
over_shows cs a b n c p h is e z = let zero : held_at cs a p ≡ 0 = held_cell cs a (Leaf n) p h (is ∙ ap Some e) ∙ z in sym (ap (λ k. over_leaf k (held_at cs b p)) zero)

pub over_hides : (cs : List Cell) (a b n : ℕ) (c : Cell) (p : List ℕ) → AreOrderedFrom 0 cs → slice_get cs a ≡ Some c → c ≡ Leaf n → n ≢ 0 → held_at cs a p ≡ over_leaf (held_at cs a p) (held_at cs b p)
over_hides cs a b n c p h is e z =
    let same : held_at cs a p ≡ n = held_cell cs a (Leaf n) p h (is ∙ ap Some e) in
    sym (cond-false (nat_eq (held_at cs a p) 0) (held_at cs b p) (held_at cs a p) (ne_eqb (held_at cs a p) 0 (λ w. z (sym same ∙ w))))

-- The last step.

pub pick_grow : (v : ℕ → ℕ) (ss : List Step) (k : ℕ) (d q r : Step) (z x : ℕ) → k + 1 ≡ length ss → (get_or ss k d).node ≡ q.node → r.hi ≡ q.hi → r.node ≡ q.node → (get_or ss k d).hi ≤ q.hi
    → pick v (set ss k r) z x ≡ pick v (ss ++ q ∷ []) z x
pick_grow v [] k d q r z x e n h m le = absurd (omega arith)
pick_grow v (s ∷ []) zero d q r z x e n h m le = ap (λ a. cond (nat_le x a) (v r.node) z) h ∙ ap (λ a. cond (nat_le x q.hi) (v a) z) m ∙ elim (cases_Bool (nat_le x s.hi)) [
  | inl t ↦ (let y : nat_le x q.hi ≡ true = le-leb x q.hi (let l : x ≤ s.hi = leb-true x s.hi t in omega arith) in rw (t, y) (ap v (sym n)))
  | inr f ↦ rw f refl
]
pick_grow v (s ∷ []) (suc k) d q r z x e n h m le = absurd (omega arith)
pick_grow v (s ∷ t ∷ ss) zero d q r z x e n h m le = absurd (omega arith)
pick_grow v (s ∷ t ∷ ss) (suc k) d q r z x e n h m le = ap (λ a. cond (nat_le x s.hi) (v s.node) a) (pick_grow v (t ∷ ss) k d q r z x (omega arith) n h m le)

same_both : (b : Bool) (m n : ℕ) → m ≡ n → n ≡ cond b m n
same_both true m n e = sym e
same_both false m n e = refl

pub child_at-shorter : (ss : List Step) (k last x : ℕ) (d : Step) → k + 1 ≡ length ss → (get_or ss k d).node ≡ last → child_at (take k ss) last x ≡ child_at ss last x
child_at-shorter [] k last x d e n = absurd (omega arith)
child_at-shorter (s ∷ []) zero last x d e n = same_both (nat_le x s.hi) s.node last n
child_at-shorter (s ∷ []) (suc k) last x d e n = absurd (omega arith)
child_at-shorter (s ∷ t ∷ ss) zero last x d e n = absurd (omega arith)
child_at-shorter (s ∷ t ∷ ss) (suc k) last x d e n = ap (λ a. cond (nat_le x s.hi) s.node a) (child_at-shorter (t ∷ ss) k last x d (omega arith) n)
