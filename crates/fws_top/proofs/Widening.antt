-- Sides that have the points of others.
use Rattle.std.proofs.Common.{◌≡◌, ◌≢◌, ℕ, zero, suc, ◌+◌, ◌<◌, true, List, [], ◌∷◌, inl, inr, refl, sym, ◌∙◌, ap, arith, length, get_or, set}
use Rattle.std.proofs.lemmas.Bool.{and_from, and_parts, cases_lt, false≢true}
use Rattle.std.proofs.lemmas.Grind.{get_or-set_at}
use Rattle.std.proofs.lemmas.List.{get_or-set_other}
use Rattle.fws_box.specs.Sides.{sides_have}
use Rattle.fws_iv.specs.declared.iv.Iv.{Iv}
use Rattle.fws_iv.specs.Ivs.{has}

-- the first k sides have the members of others
abbrev pub HaveMembers : List (List Iv) → List (List Iv) → ℕ → Type 0
HaveMembers wider sides k = (j : ℕ) → j < k → (x : ℕ) → has (get_or sides j []) x ≡ true → has (get_or wider j []) x ≡ true

default : (sides : List (List Iv)) (k : ℕ) (d e : List Iv) → k < length sides → get_or sides k d ≡ get_or sides k e
default [] k d e lt = absurd (omega arith)
default (s ∷ sides) zero d e lt = refl
default (s ∷ sides) (suc k) d e lt = default sides k d e (omega arith)

pub widened : (wider sides : List (List Iv)) (k : ℕ) → length wider ≡ k → length sides ≡ k → HaveMembers wider sides k → (p : List ℕ) → sides_have sides p ≡ true → sides_have wider p ≡ true
widened [] [] k lw ls each p h = refl
widened [] (s ∷ sides) k lw ls each p h = absurd (omega arith)
widened (w ∷ wider) [] k lw ls each p h = absurd (omega arith)
widened (w ∷ wider) (s ∷ sides) k lw ls each [] h = absurd (false≢true h)
widened (w ∷ wider) (s ∷ sides) k lw ls each (x ∷ p) h =
    let both = and_parts (has s x) (sides_have sides p) h in
    and_from (has w x) (sides_have wider p) (each 0 (omega arith) x both.0)
    (widened wider sides (length wider) refl (omega arith) (λ j lt y. each (suc j) (omega arith) y) p both.1)

-- one side more
pub widened_next : (wider sides : List (List Iv)) (k : ℕ) (w d : List Iv) → length wider ≡ 12 → length sides ≡ 12 → k < 12 → HaveMembers wider sides k
    → ((x : ℕ) → has (get_or sides k d) x ≡ true → has w x ≡ true) → HaveMembers (set wider k w) sides (k + 1)
widened_next wider sides k w d lw ls within before here j less x h = elim (cases_lt j k) [
  | inl below ↦ let ne : j ≢ k = omega arith in ap (λ s. has s x) (get_or-set_other wider k j w [] ne) ∙ before j below x h
  | inr more ↦
      let is : j ≡ k = omega arith in
      let at : k < length wider = omega arith in
      let same : get_or sides k d ≡ get_or sides j [] = default sides k d [] (omega arith) ∙ ap (λ i. get_or sides i []) (sym is) in
      ap (λ s. has s x) (get_or-set_at wider k j w [] is at) ∙ here x (ap (λ s. has s x) same ∙ h)
]
