-- Powers of two, and the numbers that are multiples of them.
use Rattle.std.proofs.Common.{◌≡◌, ◌≢◌, ℕ, ◌+◌, ◌-◌, ◌*◌, ◌/◌, ◌%◌, ◌^◌, ◌<◌, ◌≤◌, inl, inr, sym, ◌∙◌, ap, arith, lit<}
use Rattle.std.proofs.Math.Nat.{add-div_right, add-mod_right, pow-le-pow_right}
use Rattle.std.proofs.lemmas.Bool.{cases_eq, cases_lt}
use Rattle.std.proofs.lemmas.Nat.{pow_pos, pow-add, mod-pow-add}

pub pow_order : (b k : ℕ) → b ≤ k → 2 ^ b ≤ 2 ^ k
pow_order b k le = pow-le-pow_right (lit< tt) le

pub pow_next : (k : ℕ) → 2 ^ (k + 1) ≡ 2 ^ k + 2 ^ k
pow_next k = omega (arith, pow-add 2 k 1)

pub exponents : (b k : ℕ) → 2 ^ b < 2 ^ k → b < k
exponents b k lt = elim (cases_lt b k) [
  | inl h ↦ h
  | inr h ↦ let le : 2 ^ k ≤ 2 ^ b = pow_order k b h in absurd (omega arith)
]

-- a multiple of a power is one of each lesser power
pub aligned_below : (a b k : ℕ) → b ≤ k → a % 2 ^ k ≡ 0 → a % 2 ^ b ≡ 0
aligned_below a b k le whole =
    let both : (k - b) + b ≡ k = omega arith in
    let parts : (a / 2 ^ b % 2 ^ (k - b)) * 2 ^ b + a % 2 ^ b ≡ 0 = sym (mod-pow-add a (k - b) b) ∙ ap (λ n. a % 2 ^ n) both ∙ whole in
    omega arith

-- one power further
pub aligned_more : (a b k : ℕ) → b ≤ k → a % 2 ^ k ≡ 0 → (a + 2 ^ k) % 2 ^ b ≡ 0
aligned_more a b k le whole = aligned_below (a + 2 ^ k) b k le (add-mod_right a (2 ^ k) ∙ whole)

-- an odd multiple of a power and one more make an even multiple
pub aligned_next : (a k : ℕ) → a % 2 ^ k ≡ 0 → a % 2 ^ (k + 1) ≢ 0 → (a + 2 ^ k) % 2 ^ (k + 1) ≡ 0
aligned_next a k whole odd =
    let turned : 1 + k ≡ k + 1 = omega arith in
    let parts : (x : ℕ) → x % 2 ^ (k + 1) ≡ (x / 2 ^ k % 2 ^ 1) * 2 ^ k + x % 2 ^ k =
    λ x. ap (λ n. x % 2 ^ n) (sym turned) ∙ mod-pow-add x 1 k in
    let low : (a + 2 ^ k) % 2 ^ k ≡ 0 = add-mod_right a (2 ^ k) ∙ whole in
    let next : (a + 2 ^ k) / 2 ^ k ≡ a / 2 ^ k + 1 = add-div_right a (pow_pos k) in
    elim (cases_eq (a / 2 ^ k % 2) 0) [
      | inl even ↦ absurd (odd (parts a ∙ ap (λ n. n * 2 ^ k + a % 2 ^ k) even ∙ omega arith))
      | inr one ↦
          let even : (a + 2 ^ k) / 2 ^ k % 2 ≡ 0 = omega arith in
          parts (a + 2 ^ k) ∙ ap (λ n. n * 2 ^ k + (a + 2 ^ k) % 2 ^ k) even ∙ omega arith
    ]
