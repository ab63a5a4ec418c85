-- One more line.
use Rattle.std.proofs.Common.{◌≡◌, ℕ, zero, suc, ◌+◌, List, [], ◌∷◌, ◌++◌, refl, sym, ◌∙◌, ap, arith, append_assoc}
use Rattle.std.specs.List.{flat_map, range_with_len}

lines_more : (line : ℕ → List ℕ) (from n k : ℕ) → from + n ≡ k → flat_map line (range_with_len from (suc n)) ≡ flat_map line (range_with_len from n) ++ line k
lines_more line from zero k e =
    let same : from ≡ k = omega arith in
    ap (λ x. line x ++ []) same ∙ append_nil (line k)
  where
    append_nil : (xs : List ℕ) → xs ++ [] ≡ xs
    append_nil [] = refl
    append_nil (x ∷ xs) = ap (λ ys. x ∷ ys) (append_nil xs)
lines_more line from (suc n) k e =
    ap (λ ys. line from ++ ys) (lines_more line (from + 1) n k (omega arith)) ∙ sym (append_assoc (line from) (flat_map line (range_with_len (from + 1) n)) (line k))

-- the lines so far, and the next one
pub further_line : (line : ℕ → List ℕ) (k : ℕ) (start out new : List ℕ) → out ≡ start ++ flat_map line (range_with_len 0 k) → new ≡ out ++ line k
    → new ≡ start ++ flat_map line (range_with_len 0 (k + 1))
further_line line k start out new so_far made =
    made ∙ ap (λ x. x ++ line k) so_far ∙ append_assoc start (flat_map line (range_with_len 0 k)) (line k)
    ∙ ap (λ x. start ++ x) (sym more)
  where
    at : 0 + k ≡ k
    at = omega arith

    next : k + 1 ≡ suc k
    next = omega arith

    more : flat_map line (range_with_len 0 (k + 1)) ≡ flat_map line (range_with_len 0 k) ++ line k
    more = ap (λ n. flat_map line (range_with_len 0 n)) next ∙ lines_more line 0 k k at

-- five pieces that are put one behind another
pub five_put : (start a b c d e p q r s t : List ℕ) → p ≡ start ++ a → q ≡ p ++ b → r ≡ q ++ c → s ≡ r ++ d → t ≡ s ++ e → t ≡ start ++ (a ++ b ++ c ++ d ++ e)
five_put start a b c d e p q r s t put_a put_b put_c put_d put_e =
    put_e ∙ ap (λ x. x ++ e) (put_d ∙ ap (λ x. x ++ d) (put_c ∙ ap (λ x. x ++ c) (put_b ∙ ap (λ x. x ++ b) put_a ∙ append_assoc start a b)
    ∙ append_assoc start (a ++ b) c) ∙ append_assoc start (a ++ b ++ c) d) ∙ append_assoc start (a ++ b ++ c ++ d) e
