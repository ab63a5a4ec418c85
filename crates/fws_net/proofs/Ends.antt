-- The sum of an end's address and the bits below it.
use Rattle.std.proofs.Common.{◌≡◌, ℕ, ◌+◌, ◌-◌, ◌*◌, ◌/◌, ◌%◌, ◌^◌, ◌<◌, ◌≤◌, arith, ap, sym, ◌∙◌, subst}
use Rattle.std.proofs.Math.Nat.{mul-le-mul_left, lt_of_mul-lt-mul_left, mod-lt}
use Rattle.std.proofs.lemmas.Nat.{pow-add, pow_pos}

-- a multiple of p below q * p and something below p stay below q * p
multiple_fits : (q p a x : ℕ) → a < q * p → a % p ≡ 0 → x < p → a + x < q * p
multiple_fits q p a x h m lt =
    let k = a / p in
    let whole : p * k + a % p ≡ a = omega arith in
    let below : k < q = lt_of_mul-lt-mul_left p (omega arith) in
    let next : p * (k + 1) ≤ p * q = mul-le-mul_left p (omega arith) in
    omega arith

-- the block of p in which a lies ends below q * p where a lies below it
block_ends : (q p a : ℕ) → a < q * p → 0 < p → a - a % p + (p - 1) < q * p
block_ends q p a h pos =
    let k = a / p in
    let whole : p * k + a % p ≡ a = omega arith in
    let below : k < q = lt_of_mul-lt-mul_left p (omega arith) in
    let next : p * (k + 1) ≤ p * q = mul-le-mul_left p (omega arith) in
    omega arith

pub end_fits : (a n x : ℕ) → n ≤ 32 → a < 2 ^ 32 → a % 2 ^ (32 - n) ≡ 0 → a + x % 2 ^ (32 - n) < 2 ^ 32
end_fits a n x h lt m =
    let both : n + (32 - n) ≡ 32 = omega arith in
    let whole : 2 ^ n * 2 ^ (32 - n) ≡ 2 ^ 32 = sym (pow-add 2 n (32 - n)) ∙ ap (λ k. 2 ^ k) both in
    let P : ℕ → Type 0 = λ t. a + x % 2 ^ (32 - n) < t in
    let Q : ℕ → Type 0 = λ t. a < t in
    subst P whole (multiple_fits (2 ^ n) (2 ^ (32 - n)) a (x % 2 ^ (32 - n)) (subst Q (sym whole) lt) m (mod-lt x (pow_pos (32 - n))))

-- the last number of the block of p in which a lies
pub block_within : (a n : ℕ) → a < 2 ^ 32 → a - a % 2 ^ (32 - n) + (2 ^ (32 - n) - 1) < 2 ^ 32
block_within a n lt =
    let rest : ℕ = 32 - n in
    let both : (32 - rest) + rest ≡ 32 = omega arith in
    let whole : 2 ^ (32 - rest) * 2 ^ rest ≡ 2 ^ 32 = sym (pow-add 2 (32 - rest) rest) ∙ ap (λ k. 2 ^ k) both in
    let P : ℕ → Type 0 = λ t. a - a % 2 ^ rest + (2 ^ rest - 1) < t in
    let Q : ℕ → Type 0 = λ t. a < t in
    subst P whole (block_ends (2 ^ (32 - rest)) (2 ^ rest) a (subst Q (sym whole) lt) (pow_pos rest))
