-- The ranges of networks.
use Rattle.std.proofs.Common.{◌≡◌, ℕ, ◌+◌, ◌-◌, ◌*◌, ◌/◌, ◌%◌, ◌^◌, ◌<◌, ◌≤◌, Bool, true, false, ◌&&◌, ◌||◌, nat_eq, nat_le, inl, inr, [], ◌∷◌, arith, refl, sym, ap, subst, ◌∙◌, eq-eqb}
use Rattle.std.proofs.Math.Nat.{mul-le-mul_left, lt_of_mul-lt-mul_left}
use Rattle.std.proofs.lemmas.Bool.{le-leb, leb-true, and_parts, and_from, cases_Bool, eqb-true}
use Rattle.std.proofs.lemmas.Nat.{pow_pos, pow-add, div-mul-add}
use Rattle.fws_iv.specs.Ivs.{has}
use Rattle.fws_iv.specs.Prefixes.{agree}

-- a test by two bounds is one by an equation where each tells the other
between : (lo hi v b w : ℕ) → (lo ≤ v → v ≤ hi → b ≡ w) → (b ≡ w → (lo ≤ v) × (v ≤ hi)) → (nat_le lo v && nat_le v hi) ≡ nat_eq b w
between lo hi v b w f g = elim (cases_Bool (nat_le lo v && nat_le v hi)) [
  | inl t ↦ let p = and_parts (nat_le lo v) (nat_le v hi) t in t ∙ sym (eq-eqb b w (f (leb-true lo v p.0) (leb-true v hi p.1)))
  | inr n ↦ elim (cases_Bool (nat_eq b w)) [
    | inl e ↦ let q = g (eqb-true b w e) in and_from (nat_le lo v) (nat_le v hi) (le-leb lo v q.0) (le-leb v hi q.1) ∙ sym e
    | inr m ↦ n ∙ sym m
  ]
]

-- a number within the block of p that the multiple k * p begins
same_block : (p k v : ℕ) → p * k ≤ v → v < p * k + p → k ≡ v / p
same_block p k v lo hi =
    let rest : k * p + (v - p * k) ≡ v = omega arith in
    let small : v - p * k < p = omega arith in
    sym (div-mul-add k p (v - p * k) small) ∙ ap (λ t. t / p) rest

-- the bounds of the block of p in which a lies
in_block : (p a v : ℕ) → 0 < p → (nat_le (a - a % p) v && nat_le v (a - a % p + (p - 1))) ≡ nat_eq (a / p) (v / p)
in_block p a v pos =
    let begins : p * (a / p) + a % p ≡ a = omega arith in
    let stands : p * (v / p) + v % p ≡ v = omega arith in
    let small : v % p < p = omega arith in
    between (a - a % p) (a - a % p + (p - 1)) v (a / p) (v / p)
    (λ lo hi. let low : p * (a / p) ≤ v = omega arith in let high : v < p * (a / p) + p = omega arith in same_block p (a / p) v low high)
    (λ e. let m : p * (a / p) ≡ p * (v / p) = ap (λ t. p * t) e in (omega arith, omega arith))

or_false : (a : Bool) → (a || false) ≡ a
or_false true = refl
or_false false = refl

pub has_block : (len addr v : ℕ) → has (record { lo = addr - addr % 2 ^ (32 - len); hi = addr - addr % 2 ^ (32 - len) + (2 ^ (32 - len) - 1) } ∷ []) v ≡ agree len addr v
has_block len addr v = or_false _ ∙ in_block (2 ^ (32 - len)) addr v (pow_pos (32 - len))

-- the block of p in which a lies ends below q * p where a lies below it
block_ends : (q p a : ℕ) → a < q * p → 0 < p → a - a % p + (p - 1) < q * p
block_ends q p a h pos =
    let k = a / p in
    let whole : p * k + a % p ≡ a = omega arith in
    let below : k < q = lt_of_mul-lt-mul_left p (omega arith) in
    let next : p * (k + 1) ≤ p * q = mul-le-mul_left p (omega arith) in
    omega arith

-- the last number of the block of p in which a lies
pub block_within : (a n : ℕ) → a < 2 ^ 32 → a - a % 2 ^ (32 - n) + (2 ^ (32 - n) - 1) < 2 ^ 32
block_within a n lt =
    let rest : ℕ = 32 - n in
    let both : (32 - rest) + rest ≡ 32 = omega arith in
    let whole : 2 ^ (32 - rest) * 2 ^ rest ≡ 2 ^ 32 = sym (pow-add 2 (32 - rest) rest) ∙ ap (λ k. 2 ^ k) both in
    let P : ℕ → Type 0 = λ t. a - a % 2 ^ rest + (2 ^ rest - 1) < t in
    let Q : ℕ → Type 0 = λ t. a < t in
    subst P whole (block_ends (2 ^ (32 - rest)) (2 ^ rest) a (subst Q (sym whole) lt) (pow_pos rest))
