-- Numbers by their bits.
use Rattle.std.proofs.Common.{◌≡◌, ℕ, zero, suc, ◌+◌, ◌-◌, ◌*◌, ◌/◌, ◌%◌, ◌^◌, ◌<◌, ◌≤◌, Bool, true, false, cond, ◌&&◌, not, nat_eq, List, [], ◌∷◌, ◌++◌, arith, refl, sym, ap, ◌∙◌, subst, append_assoc}
use Rattle.std.proofs.lemmas.Bool.{and_parts, and_from, cond_both, eqb-true, eq-eqb, ne_eqb}
use Rattle.std.proofs.lemmas.Nat.{div-add-mod', mod_below, div_below}
use Rattle.std.proofs.Math.Nat.{pow-suc}
use Rattle.fws_pfo_ifcl.specs.Held.{bits_within, bit_count, bits_of}

-- two truth values of which each makes the other one true
same_truth : (x y : Bool) → (x ≡ true → y ≡ true) → (y ≡ true → x ≡ true) → x ≡ y
same_truth true y f g = sym (f refl)
same_truth false true f g = g refl
same_truth false false f g = refl

-- numbers are equal if their halves and their remainders are
whole_same : (m n : ℕ) → m / 2 ≡ n / 2 → m % 2 ≡ n % 2 → m ≡ n
whole_same m n half rest =
    let here : m / 2 * 2 + m % 2 ≡ m = div-add-mod' m 2 in
    let there : n / 2 * 2 + n % 2 ≡ n = div-add-mod' n 2 in
    omega (arith, here, there, half, rest)

-- a bit is another one, or isn't
parity : (i j : ℕ) → i < 2 → j < 2 → cond (not (nat_eq j 1)) (not (nat_eq i 1)) (nat_eq i 1) ≡ nat_eq i j
parity zero zero low high = refl
parity zero (suc zero) low high = refl
parity (suc zero) zero low high = refl
parity (suc zero) (suc zero) low high = refl
parity (suc (suc i)) j low high = absurd (impossible low)
  where
    impossible : suc (suc i) < 2 → ⊥
    impossible lt = omega (arith, lt)
parity zero (suc (suc j)) low high = absurd (impossible high)
  where
    impossible : suc (suc j) < 2 → ⊥
    impossible lt = omega (arith, lt)
parity (suc zero) (suc (suc j)) low high = absurd (impossible high)
  where
    impossible : suc (suc j) < 2 → ⊥
    impossible lt = omega (arith, lt)

pub halves_same : (m n : ℕ)
    → (cond (not (nat_eq (n % 2) 1)) (not (nat_eq (m % 2) 1)) (nat_eq (m % 2) 1) && nat_eq (m / 2) (n / 2)) ≡ nat_eq m n
halves_same m n =
    let low : m % 2 < 2 = mod_below m 2 (omega arith) in
    let high : n % 2 < 2 = mod_below n 2 (omega arith) in
    ap (λ b. b && nat_eq (m / 2) (n / 2)) (parity (m % 2) (n % 2) low high)
    ∙ same_truth (nat_eq (m % 2) (n % 2) && nat_eq (m / 2) (n / 2)) (nat_eq m n)
    (λ e. let both = and_parts (nat_eq (m % 2) (n % 2)) (nat_eq (m / 2) (n / 2)) e in
    eq-eqb m n (whole_same m n (eqb-true (m / 2) (n / 2) both.1) (eqb-true (m % 2) (n % 2) both.0)))
    (λ e. let is = eqb-true m n e in
    and_from (nat_eq (m % 2) (n % 2)) (nat_eq (m / 2) (n / 2)) (eq-eqb (m % 2) (n % 2) (ap (λ k. k % 2) is)) (eq-eqb (m / 2) (n / 2) (ap (λ k. k / 2) is)))

-- half of a number that has one bit more
pub half_below : (w n : ℕ) → n < 2 ^ suc w → n / 2 < 2 ^ w
half_below w n lt = div_below n 2 (2 ^ w) (omega arith) (subst (λ k. n < k) (pow-suc 2 w) lt)

-- a number is less than the power of how many bits it has
within : (fuel n : ℕ) → n ≤ fuel → n < 2 ^ bits_within fuel n
within zero n le =
    let none : n < 1 = omega (arith, le) in
    none
within (suc fuel) n le =
    let half : n / 2 * 2 + n % 2 ≡ n = div-add-mod' n 2 in
    let rest : n % 2 < 2 = mod_below n 2 (omega arith) in
    cond_both (nat_eq n 0) 0 (suc (bits_within fuel (n / 2))) (λ w. n < 2 ^ w) (λ e. let is = eqb-true n 0 e in zeroth is)
    (λ e. let below = within fuel (n / 2) (omega (arith, le, half, rest)) in
    subst (λ k. n < k) (sym (pow-suc 2 (bits_within fuel (n / 2)))) (omega (arith, half, rest, below)))
  where
    zeroth : n ≡ 0 → n < 1
    zeroth is = omega (arith, is)

pub all_bits : (n : ℕ) → n < 2 ^ bit_count n
all_bits n = within n n (omega arith)

-- of so many bits or more it has as many
bits_by : (a b n : ℕ) → n ≤ a → n ≤ b → bits_within a n ≡ bits_within b n
bits_by zero zero n le few = refl
bits_by zero (suc b) n le few =
    let none : n ≡ 0 = omega (arith, le) in
    sym (ap (λ x. cond x 0 (suc (bits_within b (n / 2)))) (eq-eqb n 0 none))
bits_by (suc a) zero n le few =
    let none : n ≡ 0 = omega (arith, few) in
    ap (λ x. cond x 0 (suc (bits_within a (n / 2)))) (eq-eqb n 0 none)
bits_by (suc a) (suc b) n le few =
    let half : n / 2 * 2 + n % 2 ≡ n = div-add-mod' n 2 in
    ap (λ k. cond (nat_eq n 0) 0 (suc k)) (bits_by a b (n / 2) (omega (arith, le, half)) (omega (arith, few, half)))

-- a number has one bit more than its half
pub bits_more : (n : ℕ) → 0 < n → bit_count n ≡ suc (bit_count (n / 2))
bits_more zero lt = absurd (impossible lt)
  where
    impossible : 0 < 0 → ⊥
    impossible low = omega (arith, low)
bits_more (suc n) lt =
    let half : suc n / 2 * 2 + suc n % 2 ≡ suc n = div-add-mod' (suc n) 2 in
    let less : suc n / 2 ≤ n = omega (arith, half) in
    ap (λ b. cond b 0 (suc (bits_within n (suc n / 2)))) (ne_eqb (suc n) 0 (λ e. lacks e))
    ∙ ap suc (bits_by n (suc n / 2) (suc n / 2) less (omega arith))
  where
    lacks : suc n ≡ 0 → ⊥
    lacks e = omega (arith, e)

-- bits are put one by one
pub bit_put : (count i left : ℕ) (bits after all : List Bool) → i < count → after ≡ bits ++ nat_eq (left % 2) 1 ∷ [] → bits ++ bits_of (count - i) left ≡ all
    → after ++ bits_of (count - (i + 1)) (left / 2) ≡ all
bit_put count i left bits after all lt put inv =
    let less : count - i ≡ suc (count - (i + 1)) = omega (arith, lt) in
    ap (λ l. l ++ bits_of (count - (i + 1)) (left / 2)) put
    ∙ append_assoc bits (nat_eq (left % 2) 1 ∷ []) (bits_of (count - (i + 1)) (left / 2))
    ∙ ap (λ k. bits ++ bits_of k left) (sym less)
    ∙ inv
