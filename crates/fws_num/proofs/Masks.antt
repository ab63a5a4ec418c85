-- The addresses of a prefix, and the length of a mask.
use Rattle.std.proofs.Common.{◌≡◌, ◌≢◌, ℕ, suc, ◌+◌, ◌-◌, ◌*◌, ◌/◌, ◌%◌, ◌^◌, ◌<◌, ◌≤◌, Bool, true, false, cond, nat_eq, Option, Some, sym, ◌∙◌, ap, refl, arith, eq-eqb}
use Rattle.std.proofs.Math.Nat.{mod-add-div, mul-le-mul_left, mul-mod_right}
use Rattle.std.proofs.Math.Pow.{pow_pos}
use Rattle.std.proofs.lemmas.Nat.{pow-add, div_below}
use Rattle.std.proofs.lemmas.Bool.Decides.{nat_tests}
use Rattle.std.specs.List.{find, range_with_len}
use Rattle.fws_num.specs.Numbers.{mask_of}

-- the addresses that share the first bits of one are at least one
pub some_addresses : (n : ℕ) → 0 < 2 ^ n
some_addresses n = pow_pos n

-- the last address of a prefix is one
pub last_fits : (a n : ℕ) → a < 2 ^ 32 → n ≤ 32 → a % 2 ^ (32 - n) ≡ 0 → a + (2 ^ (32 - n) - 1) < 2 ^ 32
last_fits a n h k clear =
    let size = 2 ^ (32 - n) in
    let positive : 0 < size = some_addresses (32 - n) in
    let whole : 2 ^ n * size ≡ 2 ^ 32 = let e : n + (32 - n) ≡ 32 = omega arith in sym (pow-add 2 n (32 - n)) ∙ ap (λ (x : ℕ). 2 ^ x) e in
    let below : a / size < 2 ^ n = div_below a size (2 ^ n) positive (rw whole h) in
    let next : size * suc (a / size) ≤ size * 2 ^ n = mul-le-mul_left size below in
    grind (arith, mod-add-div a size, clear, whole, next)

-- the first bits have none behind them
pub clear_part : (a size : ℕ) → (a - a % size) % size ≡ 0
clear_part a size =
    let e : a - a % size ≡ size * (a / size) = omega (arith, mod-add-div a size) in
    ap (λ (x : ℕ). x % size) e ∙ mul-mod_right size (a / size)

-- one length after another is tried
pub find-range : (p : ℕ → Bool) (n : ℕ) → n < 33 → find p (range_with_len n (33 - n)) ≡ cond (p n) (Some n) (find p (range_with_len (n + 1) (33 - (n + 1))))
find-range p n h = let e : 33 - n ≡ suc (33 - (n + 1)) = omega arith in rw e refl

-- a mask was found, or is yet to be found
pub found : (mask n m : ℕ) (o : Option ℕ) → n < 33 → m ≡ mask_of n → m ≡ mask → find (λ k. nat_eq (mask_of k) mask) (range_with_len n (33 - n)) ≡ o → Some n ≡ o
found mask n m o h e f g =
    let t : nat_eq (mask_of n) mask ≡ true = eq-eqb (mask_of n) mask (sym e ∙ f) in
    sym (rw t at (find-range (λ k. nat_eq (mask_of k) mask) n h)) ∙ g

pub passed : (mask n m : ℕ) (o : Option ℕ) → n < 33 → m ≡ mask_of n → m ≢ mask → find (λ k. nat_eq (mask_of k) mask) (range_with_len n (33 - n)) ≡ o
    → find (λ k. nat_eq (mask_of k) mask) (range_with_len (n + 1) (33 - (n + 1))) ≡ o
passed mask n m o h e f g =
    let t : nat_eq (mask_of n) mask ≡ false = grind (arith, nat_tests) in
    sym (rw t at (find-range (λ k. nat_eq (mask_of k) mask) n h)) ∙ g
