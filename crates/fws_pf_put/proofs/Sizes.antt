-- Blocks of addresses have 32 bits.
use Rattle.std.proofs.Common.{◌≡◌, ℕ, ◌+◌, ◌-◌, ◌*◌, ◌/◌, ◌%◌, ◌^◌, ◌<◌, ◌≤◌, arith, sym, ap, subst, ◌∙◌}
use Rattle.std.proofs.lemmas.Nat.{pow-add, pow_pos}
use Rattle.std.proofs.Math.Nat.{mul-le-mul_left, lt_of_mul-lt-mul_left}

-- a multiple of p below q * p and something below p stay below q * p
pub multiple_fits : (q p a x : ℕ) → a < q * p → a % p ≡ 0 → x < p → a + x < q * p
multiple_fits q p a x h m lt =
    let k = a / p in
    let whole : p * k + a % p ≡ a = omega arith in
    let below : k < q = lt_of_mul-lt-mul_left p (omega arith) in
    let next : p * (k + 1) ≤ p * q = mul-le-mul_left p (omega arith) in
    omega arith

-- the last address of a block has 32 bits
pub last_fits : (addr len size : ℕ) → size ≡ 2 ^ (32 - len) → len ≤ 32 → addr < 2 ^ 32 → addr % 2 ^ (32 - len) ≡ 0 → addr + (size - 1) < 2 ^ 32
last_fits addr len size is h lt m =
    let both : len + (32 - len) ≡ 32 = omega arith in
    let whole : 2 ^ len * 2 ^ (32 - len) ≡ 2 ^ 32 = sym (pow-add 2 len (32 - len)) ∙ ap (λ k. 2 ^ k) both in
    let pos : 0 < 2 ^ (32 - len) = pow_pos (32 - len) in
    let below : size - 1 < 2 ^ (32 - len) = omega (arith, is, pos) in
    let P : ℕ → Type 0 = λ t. addr + (size - 1) < t in
    let Q : ℕ → Type 0 = λ t. addr < t in
    subst P whole (multiple_fits (2 ^ len) (2 ^ (32 - len)) addr (size - 1) (subst Q (sym whole) lt) m below)
