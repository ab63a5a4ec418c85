-- Where two values that are written over numbers agree.
use Rattle.std.proofs.Common.{◌≡◌, ℕ, zero, suc, ◌+◌, ◌-◌, ◌*◌, ◌/◌, ◌%◌, ◌^◌, ◌<◌, ◌≤◌, ◌⊎◌, inl, inr, sym, ◌∙◌, ap, subst, arith, min}
use Rattle.std.proofs.lemmas.Nat.{pow_pos, mod-pow-add, div-add-mod', mod-mul-add, div-mul-add, div_below, le-div, same_from_place, pow_below}
use Rattle.std.proofs.Math.Nat.{mod-one}

-- the values over x are equal
abbrev pub Agree : ℕ → ℕ → ℕ → ℕ → ℕ → Type 0
Agree a m b n x = a + x % 2 ^ m ≡ b + x % 2 ^ n

abbrev next : ℕ → ℕ → ℕ
next x k = x - x % 2 ^ k + 2 ^ k

-- a number and the next one have different remainders
step : (q k : ℕ) → 2 ≤ k → q % k ≡ (q + 1) % k → ⊥
step q k two same =
    let here : q / k * k + q % k ≡ q = div-add-mod' q k in
    let there : (q + 1) / k * k + (q + 1) % k ≡ q + 1 = div-add-mod' (q + 1) k in
    let more : (q + 1) / k * k + 0 ≡ q / k * k + 1 = omega (arith, here, there, same) in
    let none : ((q + 1) / k * k + 0) % k ≡ 0 = mod-mul-add ((q + 1) / k) k 0 (omega arith) in
    let one : (q / k * k + 1) % k ≡ 1 = mod-mul-add (q / k) k 1 (omega arith) in
    let bad : ◌≡◌ {A = ℕ} 0 1 = sym none ∙ ap (λ n. n % k) more ∙ one in
    absurd (omega (arith, bad))

-- over numbers of which the first value keeps more bits
blocks : (a b j k x : ℕ) → Agree a (j + k) b k x → a + (x / 2 ^ k % 2 ^ j) * 2 ^ k ≡ b
blocks a b j k x e = let s = mod-pow-add x j k in omega (arith, e, s)

over_block : (a b j k x : ℕ) → a + (x / 2 ^ k % 2 ^ j) * 2 ^ k ≡ b → Agree a (j + k) b k x
over_block a b j k x e = let s = mod-pow-add x j k in omega (arith, e, s)

-- the next block begins with the next number of a block
next_is : (x k : ℕ) → next x k ≡ (x / 2 ^ k + 1) * 2 ^ k + 0
next_is x k = let e : x / 2 ^ k * 2 ^ k + x % 2 ^ k ≡ x = div-add-mod' x (2 ^ k) in omega (arith, e)

next_number : (x k : ℕ) → next x k / 2 ^ k ≡ x / 2 ^ k + 1
next_number x k = ap (λ n. n / 2 ^ k) (next_is x k) ∙ div-mul-add (x / 2 ^ k + 1) (2 ^ k) 0 (pow_pos k)

-- a number ahead of the next block is of the same one
same_block : (lo x k : ℕ) → lo ≤ x → x < next lo k → lo / 2 ^ k ≡ x / 2 ^ k
same_block lo x k le lt =
    let pos : 0 < 2 ^ k = pow_pos k in
    let here : lo / 2 ^ k * 2 ^ k + lo % 2 ^ k ≡ lo = div-add-mod' lo (2 ^ k) in
    let end : next lo k ≡ (lo / 2 ^ k + 1) * 2 ^ k + 0 = next_is lo k in
    let up : x / 2 ^ k < lo / 2 ^ k + 1 = div_below x (2 ^ k) (lo / 2 ^ k + 1) pos (omega (arith, end)) in
    let down : lo / 2 ^ k ≤ x / 2 ^ k = le-div (lo / 2 ^ k) x (2 ^ k) pos (omega (arith, here)) in
    omega arith

two_or_more : (i : ℕ) → 2 ≤ 2 ^ suc i
two_or_more i = let p = pow_below 0 (suc i) (omega arith) in omega (arith, p)

ordered : (a b j k lo hi x : ℕ) → lo ≤ x → x ≤ hi → Agree a (j + k) b k lo → (hi < next lo k) ⊎ Agree a (j + k) b k (next lo k) → Agree a (j + k) b k x
ordered a b zero k lo hi x le up here other =
    let e = blocks a b zero k lo here in
    let s : lo / 2 ^ k % 2 ^ 0 ≡ x / 2 ^ k % 2 ^ 0 = mod-one (lo / 2 ^ k) ∙ sym (mod-one (x / 2 ^ k)) in
    over_block a b zero k x (ap (λ r. a + r * 2 ^ k) (sym s) ∙ e)
ordered a b (suc i) k lo hi x le up here (inl lt) =
    let e = blocks a b (suc i) k lo here in
    let s : lo / 2 ^ k ≡ x / 2 ^ k = same_block lo x k le (omega arith) in
    over_block a b (suc i) k x (ap (λ q. a + (q % 2 ^ suc i) * 2 ^ k) (sym s) ∙ e)
ordered a b (suc i) k lo hi x le up here (inr there) =
    let e = blocks a b (suc i) k lo here in
    let f = blocks a b (suc i) k (next lo k) there in
    let g : a + ((lo / 2 ^ k + 1) % 2 ^ suc i) * 2 ^ k ≡ b = ap (λ q. a + (q % 2 ^ suc i) * 2 ^ k) (sym (next_number lo k)) ∙ f in
    let pos : 0 < 2 ^ k = pow_pos k in
    let same : (lo / 2 ^ k % 2 ^ suc i) * 2 ^ k + 0 ≡ ((lo / 2 ^ k + 1) % 2 ^ suc i) * 2 ^ k + 0 = omega (arith, e, g) in
    absurd (step (lo / 2 ^ k) (2 ^ suc i) (two_or_more i) (same_from_place _ 0 _ 0 (2 ^ k) pos pos same).0)

total : (m n : ℕ) → ((j : ℕ) × (m ≡ j + n)) ⊎ ((j : ℕ) × (n ≡ j + m))
total zero n = inr (n, omega arith)
total (suc m) zero = inl (suc m, omega arith)
total (suc m) (suc n) = elim (total m n) [
  | inl s ↦ inl (s.0, (let e = s.1 in omega (arith, e)))
  | inr s ↦ inr (s.0, (let e = s.1 in omega (arith, e)))
]

-- two values agree over all numbers up to another one where they do so over the least, and either there is no further block
-- or they do so over its first
pub far : (a m b n lo hi x : ℕ) → lo ≤ x → x ≤ hi → Agree a m b n lo → (hi < next lo (min m n)) ⊎ Agree a m b n (next lo (min m n)) → Agree a m b n x
far a m b n lo hi x le up here other = elim (total m n) [
  | inl s ↦ (let e : m ≡ s.0 + n = s.1 in
      let least : min m n ≡ n = omega arith in
      subst (λ k. Agree a k b n x) (sym e)
      (ordered a b s.0 n lo hi x le up (subst (λ k. Agree a k b n lo) e here)
      (subst (λ k. (hi < next lo n) ⊎ Agree a k b n (next lo n)) e
      (subst (λ k. (hi < next lo k) ⊎ Agree a m b n (next lo k)) least other))))
  | inr s ↦ (let e : n ≡ s.0 + m = s.1 in
      let least : min m n ≡ m = omega arith in
      subst (λ k. Agree a m b k x) (sym e)
      (sym (ordered b a s.0 m lo hi x le up (sym (subst (λ k. Agree a m b k lo) e here))
      (turned (hi < next lo m) _ _ (subst (λ k. (hi < next lo m) ⊎ Agree a m b k (next lo m)) e
      (subst (λ k. (hi < next lo k) ⊎ Agree a m b n (next lo k)) least other))))))
]
  where
    turned : (P : Type 0) (u v : ℕ) → P ⊎ (u ≡ v) → P ⊎ (v ≡ u)
    turned P u v (inl p) = inl p
    turned P u v (inr q) = inr (sym q)

-- the next block begins behind the number
pub next_behind : (lo k : ℕ) → lo < next lo k
next_behind lo k =
    let pos : 0 < 2 ^ k = pow_pos k in
    let here : lo / 2 ^ k * 2 ^ k + lo % 2 ^ k ≡ lo = div-add-mod' lo (2 ^ k) in
    let below : lo % 2 ^ k < 2 ^ k = mod_low_bound lo (2 ^ k) pos in
    omega arith
  where
    mod_low_bound : (n k : ℕ) → 0 < k → n % k < k
    mod_low_bound n k p = omega arith
