-- Numbers that are counted up to a bound.
use Rattle.std.proofs.Common.{◌≡◌, ℕ, zero, suc, ◌+◌, ◌-◌, ◌*◌, ◌^◌, ◌≤◌, ◌<◌, Bool, true, false, min, nat_le, refl, sym, ap, ◌∙◌, arith}
use Rattle.std.proofs.lemmas.Bool.Decides.{nat_tests}
use Rattle.std.proofs.lemmas.Nat.{mul-le}
use Rattle.fws_pf.specs.Drawn.{expanded_with}
use Rattle.fws_pf_words.specs.Limits.{within_limit}

same_over : (x y k : ℕ) → k ≤ x → k ≤ y → min x k ≡ min y k
same_over x y k p q = omega arith

over_left : (a b k : ℕ) → k ≤ a → 1 ≤ b → k ≤ a * b
over_left a b k p q = omega (arith, mul-le k 1 a b p q)

over_right : (a b k : ℕ) → 1 ≤ a → k ≤ b → k ≤ a * b
over_right a b k p q = omega (arith, mul-le 1 k a b p q)

-- factors of which one is zero
left_zero : (b k : ℕ) → min (min 0 k * min b k) k ≡ min (0 * b) k
left_zero b k = let e : min 0 k ≡ 0 = omega arith in ap (λ n. min (n * min b k) k) e ∙ omega arith

right_zero : (a k : ℕ) → min (min a k * min 0 k) k ≡ min (a * 0) k
right_zero a k = let e : min 0 k ≡ 0 = omega arith in ap (λ n. min (min a k * n) k) e ∙ omega arith

both_small : (a b k : ℕ) → a ≤ k → b ≤ k → min (min a k * min b k) k ≡ min (a * b) k
both_small a b k p q =
    let e : min a k ≡ a = omega arith in
    let f : min b k ≡ b = omega arith in
    ap (λ n. min (n * min b k) k) e ∙ ap (λ n. min (a * n) k) f

left_large : (a b k : ℕ) → k ≤ a → 1 ≤ b → 1 ≤ k → min (min a k * min b k) k ≡ min (a * b) k
left_large a b k p q r =
    let x : k ≤ min a k = omega arith in
    let y : 1 ≤ min b k = omega arith in
    same_over (min a k * min b k) (a * b) k (over_left (min a k) (min b k) k x y) (over_left a b k p q)

right_large : (a b k : ℕ) → 1 ≤ a → k ≤ b → 1 ≤ k → min (min a k * min b k) k ≡ min (a * b) k
right_large a b k p q r =
    let x : 1 ≤ min a k = omega arith in
    let y : k ≤ min b k = omega arith in
    same_over (min a k * min b k) (a * b) k (over_right (min a k) (min b k) k x y) (over_right a b k p q)

by_tests : (a b k : ℕ) → 1 ≤ a → 1 ≤ b → 1 ≤ k → (s t : Bool) → nat_le k a ≡ s → nat_le k b ≡ t → min (min a k * min b k) k ≡ min (a * b) k
by_tests a b k p q r true t e f = left_large a b k (grind (arith, nat_tests)) q r
by_tests a b k p q r false true e f = right_large a b k p (grind (arith, nat_tests)) r
by_tests a b k p q r false false e f = both_small a b k (grind (arith, nat_tests)) (grind (arith, nat_tests))

-- a product that is counted up to a bound is that of its factors that are
capped : (a b k : ℕ) → 1 ≤ k → min (min a k * min b k) k ≡ min (a * b) k
capped zero b k r = left_zero b k
capped (suc a) zero k r = right_zero (suc a) k
capped (suc a) (suc b) k r = by_tests (suc a) (suc b) k (omega arith) (omega arith) r (nat_le k (suc a)) (nat_le k (suc b)) refl refl

-- so too where the factors stand for others that are counted alike
pub counted_as : (a b x y k r : ℕ) → 1 ≤ k → r ≡ min (a * b) k → min a k ≡ min x k → min b k ≡ min y k → r ≡ min (x * y) k
counted_as a b x y k r g e p q = e ∙ sym (capped a b k g) ∙ ap (λ m. min (m * min b k) k) p ∙ ap (λ m. min (min x k * m) k) q ∙ capped x y k g

-- rules that are too many are seen from how many are counted
pub sum_within : (expanded count n s : ℕ) → count ≡ min n 400000 → s ≡ min (expanded + count) (2 ^ 64 - 1) → 1 < count →
    within_limit s ≡ within_limit (expanded_with expanded n)
sum_within expanded count n s e f p = grind (arith, nat_tests)

pub alone_within : (expanded count n : ℕ) → count ≡ min n 400000 → count ≤ 1 → within_limit expanded ≡ within_limit (expanded_with expanded n)
alone_within expanded count n e p = grind (arith, nat_tests)
