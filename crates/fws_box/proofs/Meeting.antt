-- Sides that meet.
use Rattle.std.proofs.Common.{◌≡◌, ◌≢◌, ℕ, suc, ◌+◌, ◌<◌, Bool, true, false, ◌&&◌, List, [], ◌∷◌, inl, inr, refl, sym, ◌∙◌, ap, arith, length, get_or, set}
use Rattle.std.proofs.lemmas.Bool.{cases_lt}
use Rattle.std.proofs.lemmas.Grind.{get_or-set_at}
use Rattle.std.proofs.lemmas.List.{get_or-set_other}
use Rattle.fws_iv.specs.declared.iv.Iv.{Iv}
use Rattle.fws_iv.specs.Ivs.{has}
use Rattle.fws_box.specs.Sides.{sides_have}
use Rattle.fws_box.proofs.SideBySide.{default}

-- the points of both sides
abbrev pub IsMet : List (List Iv) → List (List Iv) → List (List Iv) → ℕ → Type 0
IsMet met a b k = (j : ℕ) → j < k → (x : ℕ) → has (get_or met j []) x ≡ (has (get_or a j []) x && has (get_or b j []) x)

exchanged : (s t u v : Bool) → ((s && t) && (u && v)) ≡ ((s && u) && (t && v))
exchanged true true u v = refl
exchanged true false true v = refl
exchanged true false false v = refl
exchanged false t u v = refl

pub sides_met : (met a b : List (List Iv)) (k : ℕ) → length met ≡ k → length a ≡ k → length b ≡ k → IsMet met a b k
    → (p : List ℕ) → sides_have met p ≡ (sides_have a p && sides_have b p)
sides_met [] [] [] k lm la lb each p = refl
sides_met [] [] (t ∷ b) k lm la lb each p = absurd (omega arith)
sides_met [] (s ∷ a) b k lm la lb each p = absurd (omega arith)
sides_met (m ∷ met) [] b k lm la lb each p = absurd (omega arith)
sides_met (m ∷ met) (s ∷ a) [] k lm la lb each p = absurd (omega arith)
sides_met (m ∷ met) (s ∷ a) (t ∷ b) k lm la lb each [] = refl
sides_met (m ∷ met) (s ∷ a) (t ∷ b) k lm la lb each (x ∷ p) =
    ap (λ h. h && sides_have met p) (each 0 (omega arith) x)
    ∙ ap (λ h. (has s x && has t x) && h) (sides_met met a b (length met) refl (omega arith) (omega arith) (λ j lt y. each (suc j) (omega arith) y) p)
    ∙ exchanged (has s x) (has t x) (sides_have a p) (sides_have b p)

-- one side more
pub met_next : (met a b : List (List Iv)) (k : ℕ) (m d e : List Iv) → length met ≡ 12 → length a ≡ 12 → length b ≡ 12 → k < 12 → IsMet met a b k
    → ((x : ℕ) → has m x ≡ (has (get_or a k d) x && has (get_or b k e) x)) → IsMet (set met k m) a b (k + 1)
met_next met a b k m d e twelve la lb within before here j less x = elim (cases_lt j k) [
  | inl below ↦ let ne : j ≢ k = omega arith in ap (λ s. has s x) (get_or-set_other met k j m [] ne) ∙ before j below x
  | inr more ↦
      let is : j ≡ k = omega arith in
      let at : k < length met = omega arith in
      let of_a : get_or a k d ≡ get_or a j [] = default a k d [] (omega arith) ∙ ap (λ i. get_or a i []) (sym is) in
      let of_b : get_or b k e ≡ get_or b j [] = default b k e [] (omega arith) ∙ ap (λ i. get_or b i []) (sym is) in
      ap (λ s. has s x) (get_or-set_at met k j m [] is at) ∙ here x ∙ ap (λ s. has s x && has (get_or b k e) x) of_a ∙ ap (λ s. has (get_or a j []) x && has s x) of_b
]
