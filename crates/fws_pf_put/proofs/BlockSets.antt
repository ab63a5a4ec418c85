-- Blocks of addresses as ranges.
use Rattle.std.proofs.Common.{◌≡◌, ℕ, suc, ◌+◌, ◌-◌, ◌*◌, ◌/◌, ◌%◌, ◌^◌, ◌<◌, ◌≤◌, Bool, true, false, ◌&&◌, ◌||◌, nat_eq, nat_le, inl, inr, arith, refl, sym, ap, ◌∙◌}
use Rattle.std.proofs.lemmas.Bool.Decides.{nat_tests}
use Rattle.std.proofs.lemmas.Nat.{pow-add, pow_pos}
use Rattle.std.proofs.lemmas.Bool.{and_from, cases_order, eqb-true, eq-eqb, le-leb}
use Rattle.std.proofs.Math.Nat.{div-div-eq-div-mul, mul-le-mul_left, le_refl}
use Rattle.fws_iv.specs.Ivs.{has}
use Rattle.fws_iv.specs.Prefixes.{IsBlock, agree, prefix_has}
use Rattle.fws_num.specs.declared.prefix.Prefix.{Prefix}
use Rattle.fws_pf_put.specs.Sources.{addresses}

-- the numbers with the quotient of a multiple are those from the multiple to the one ahead of the next
pub same_quotient : (s a v : ℕ) → 0 < s → a % s ≡ 0 → nat_eq (a / s) (v / s) ≡ (nat_le a v && nat_le v (a + (s - 1)))
same_quotient s a v pos whole =
    let begins : s * (a / s) + a % s ≡ a = omega arith in
    let stands : s * (v / s) + v % s ≡ v = omega arith in
    let small : v % s < s = omega arith in
    elim (cases_order (a / s) (v / s)) [
      | inl e ↦ let m : s * (a / s) ≡ s * (v / s) = ap (λ t. s * t) e in grind (arith, nat_tests)
      | inr d ↦ elim d [
        | inl lt ↦ let m : s * suc (a / s) ≤ s * (v / s) = mul-le-mul_left s lt in grind (arith, nat_tests)
        | inr gt ↦ let m : s * suc (v / s) ≤ s * (a / s) = mul-le-mul_left s gt in grind (arith, nat_tests)
      ]
    ]

-- a block has the addresses that agree with it
pub block_has : (block : Prefix) → IsBlock block → (v : ℕ) → has (addresses block) v ≡ prefix_has block v
block_has block sound v =
    or_none (nat_le block.addr v && nat_le v (block.addr + (2 ^ (32 - block.len) - 1)))
    ∙ sym (same_quotient (2 ^ (32 - block.len)) block.addr v (pow_pos (32 - block.len)) sound.cleared) where
      or_none : (b : Bool) → (b || false) ≡ b
      or_none true = refl
      or_none false = refl

-- its first and its last address agree in as many bits, and in fewer
pub block_agrees : (block : Prefix) → IsBlock block → (n : ℕ) → n ≤ block.len → agree n block.addr (block.addr + (2 ^ (32 - block.len) - 1)) ≡ true
block_agrees block sound n fewer =
    let size = 2 ^ (32 - block.len) in
    let hi = block.addr + (size - 1) in
    let whole : nat_eq (block.addr / size) (hi / size) ≡ true =
    same_quotient size block.addr hi (pow_pos (32 - block.len)) sound.cleared
    ∙ and_from (nat_le block.addr hi) (nat_le hi hi) (le-leb block.addr hi (omega arith)) (le-leb hi hi (le_refl hi)) in
    let short = sound.short in
    let bits : (32 - block.len) + (block.len - n) ≡ 32 - n = omega (arith, short, fewer) in
    let power : 2 ^ (32 - n) ≡ size * 2 ^ (block.len - n) = ap (λ k. 2 ^ k) (sym bits) ∙ pow-add 2 (32 - block.len) (block.len - n) in
    let halves : (x : ℕ) → x / 2 ^ (32 - n) ≡ (x / size) / 2 ^ (block.len - n) = λ x. ap (λ d. x / d) power ∙ sym (div-div-eq-div-mul x size (2 ^ (block.len - n))) in
    eq-eqb (block.addr / 2 ^ (32 - n)) (hi / 2 ^ (32 - n))
    (halves block.addr ∙ ap (λ q. q / 2 ^ (block.len - n)) (eqb-true (block.addr / size) (hi / size) whole) ∙ sym (halves hi))
