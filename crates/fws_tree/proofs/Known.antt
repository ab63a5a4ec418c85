-- What a memo knows, and what may be skipped.
use Rattle.std.proofs.Common.{◌≡◌, ℕ, ◌<◌, List, [], length, nat_eq, Option, Some, None, inl, inr, refl, sym, ◌∙◌, subst, arith}
use Rattle.std.proofs.lemmas.Bool.{cases_Bool, and_parts, eqb-true, cond-true, cond-false}
use Rattle.std.specs.HashMap.{get, Updates}
use Rattle.fws_tree.specs.declared.memo.Memo.{Memo}
use Rattle.fws_tree.specs.declared.store.Cell.{Cell}
use Rattle.fws_tree.specs.Building.{Extends}
use Rattle.fws_tree.specs.Held.{held_at, pair_eq}
use Rattle.fws_tree.specs.Merged.{IsMerged, AreKnown, IsSkipped, CanSkip}
use Rattle.fws_tree.specs.Parts.{CanStay}
use Rattle.fws_tree.proofs.Cells.{held-extends, length-extends}
use Rattle.fws_tree.proofs.Merging.{GivesMore, given-same}

-- a merge stays one when cells are added behind, and more is given
merged-later : (r s : ℕ → ℕ → ℕ → Type 0) (old mid new : List Cell) (a b n : ℕ) → GivesMore r s → Extends mid new → n < length mid → IsMerged r old mid a b n → IsMerged s old new a b n
merged-later r s old mid new a b n more e lt m p =
    given-same s (held_at old a p) (held_at old b p) (held_at mid n p) (held_at old a p) (held_at old b p) (held_at new n p) refl refl (sym (held-extends mid new n p e lt)) (more (held_at old a p) (held_at old b p) (held_at mid n p) (m p))

merged_now : (gives : ℕ → ℕ → ℕ → Type 0) (old new : List Cell) (a b n : ℕ) → Extends old new → a < length old → b < length old → IsMerged gives old new a b n → IsMerged gives new new a b n
merged_now gives old new a b n e la lb m p =
    given-same gives (held_at old a p) (held_at old b p) (held_at new n p) (held_at new a p) (held_at new b p) (held_at new n p) (sym (held-extends old new a p e la)) (sym (held-extends old new b p e lb)) refl (m p)

pub known-extends : (r s : ℕ → ℕ → ℕ → Type 0) (old new : List Cell) (m : Memo) → GivesMore r s → Extends old new → AreKnown r old m → AreKnown s new m
known-extends r s old new m more e known a b n is =
    let k = known a b n is in
    let l = length-extends old new e in
    let la = k.0 in let lb = k.1 in let ln = k.2 in
    (omega arith, omega arith, omega arith, merged_now s old new a b n e la lb (merged-later r s old old new a b n more e ln k.3))

-- what was known, as the answer
pub known_merge : (r s : ℕ → ℕ → ℕ → Type 0) (old new : List Cell) (m : Memo) (a b n : ℕ) → GivesMore r s → Extends old new → AreKnown r old m → get pair_eq m.found (a, b) ≡ Some n → (n < length new) × IsMerged s old new a b n
known_merge r s old new m a b n more e known is =
    let k = known a b n is in
    let l = length-extends old new e in
    let ln = k.2 in
    (omega arith, merged-later r s old old new a b n more e ln k.3)

pub known-none : (gives : ℕ → ℕ → ℕ → Type 0) (cells : List Cell) (m : Memo) → ((a b : ℕ) → get pair_eq m.found (a, b) ≡ None) → AreKnown gives cells m
known-none gives cells m none a b r is = let e : None ≡ Some r = sym (none a b) ∙ is in absurd (cc)

-- one more entry
pub known-note : (gives : ℕ → ℕ → ℕ → Type 0) (old new : List Cell) (m n : Memo) (a b r : ℕ) → AreKnown gives new m → Updates pair_eq m.found n.found (a, b) (Some r) → Extends old new → a < length old → b < length old → r < length new
    → IsMerged gives old new a b r → AreKnown gives new n
known-note gives old new m n a b r known u e la lb lr here x y z is = elim (cases_Bool (pair_eq (a, b) (x, y))) [
  | inl t ↦ (
      let p = and_parts (nat_eq a x) (nat_eq b y) t in
      let ex : a ≡ x = eqb-true a x p.0 in
      let ey : b ≡ y = eqb-true b y p.1 in
      let l = length-extends old new e in
      let s : Some r ≡ Some z = sym (cond-true (pair_eq (a, b) (x, y)) (Some r) (get pair_eq m.found (x, y)) t) ∙ sym (u.0 (x, y)) ∙ is in
      let ez : r ≡ z = cc in
      let now : IsMerged gives new new a b r = merged_now gives old new a b r e la lb here in
      (omega arith, omega arith, omega arith, subst (λ k. IsMerged gives new new x y k) ez (subst (λ k. IsMerged gives new new x k r) ey (subst (λ k. IsMerged gives new new k b r) ex now))))
  | inr f ↦ known x y z (sym (cond-false (pair_eq (a, b) (x, y)) (Some r) (get pair_eq m.found (x, y)) f) ∙ sym (u.0 (x, y)) ∙ is)
]

-- what may be skipped may be skipped later
pub skip-extends : (r s : ℕ → ℕ → ℕ → Type 0) (old new : List Cell) (masks : List ℕ) (wanted : ℕ) → GivesMore r s → Extends old new → CanSkip r old masks wanted → CanSkip s new masks wanted
skip-extends r s old new masks wanted more e skip at h =
    let k = skip at h in
    let inside = k.0 in
    let l = length-extends old new e in (
      omega arith,
      λ p y.
          let same : held_at old at p ≡ held_at new at p = sym (held-extends old new at p e inside) in
          given-same s (held_at old at p) y (held_at old at p) (held_at new at p) y (held_at new at p) same refl same (more (held_at old at p) y (held_at old at p) (k.1 p y)),
    )

pub skipped : (gives : ℕ → ℕ → ℕ → Type 0) (cells : List Cell) (masks : List ℕ) (wanted a b : ℕ) → CanSkip gives cells masks wanted → IsSkipped masks wanted a → IsMerged gives cells cells a b a
skipped gives cells masks wanted a b skip h p = (skip a h).1 p (held_at cells b p)

pub skip-none : (gives : ℕ → ℕ → ℕ → Type 0) (cells : List Cell) (wanted : ℕ) → CanSkip gives cells [] wanted
skip-none gives cells wanted at h = let l = h.0 in absurd (omega arith)

-- where all stays, all stays later
pub stay-extends : (r s : ℕ → ℕ → ℕ → Type 0) (old new : List Cell) (stay : Option ℕ) → GivesMore r s → Extends old new → CanStay r old stay → CanStay s new stay
stay-extends r s old new stay more e can k is =
    let h = can k is in
    let inside = h.0 in
    let l = length-extends old new e in (
      omega arith,
      λ p x. given-same s x (held_at old k p) x x (held_at new k p) x refl (sym (held-extends old new k p e inside)) refl (more x (held_at old k p) x (h.1 p x)),
    )

pub stay-none : (gives : ℕ → ℕ → ℕ → Type 0) (cells : List Cell) → CanStay gives cells None
stay-none gives cells k is = let e : None ≡ Some k = is in absurd (cc)
