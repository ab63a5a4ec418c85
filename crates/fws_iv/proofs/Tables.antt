-- Tables of 2 ^ n truth values, and their halves.
use Rattle.std.proofs.Common.{◌≡◌, ℕ, ◌+◌, ◌*◌, ◌/◌, ◌%◌, ◌^◌, ◌<◌, Bool, true, false, ◌&&◌, nat_eq, if◌then◌else◌, List, take, drop, length, get_or, inl, inr, sym, ◌∙◌, ap, arith, length-drop, length-take}
use Rattle.std.specs.Int.{bit_at}
use Rattle.std.proofs.lemmas.Bool.{cases_eq, eq-eqb, ne_eqb}
use Rattle.std.proofs.lemmas.List.{get_or-drop, get_or-take}
use Rattle.std.proofs.lemmas.Nat.{mod_below, mod-pow-add, pow_pos}
use Rattle.std.proofs.lemmas.Nat.Bits.{bit_at-lt}
use Rattle.fws_iv.proofs.Powers.{pow_next}

-- the halves of a table by the bit of weight 2 ^ k, above all others
pub record Halves (k n : ℕ) (table low high : List Bool) : Type 0 where
  pub low_size : length low ≡ 2 ^ k
  pub high_size : length high ≡ 2 ^ k
  pub low_at : (s : ℕ) → s < 2 ^ k → get_or low s false ≡ get_or table s false
  pub high_at : (s : ℕ) → s < 2 ^ k → get_or high s false ≡ get_or table (2 ^ k + s) false
  pub first : (v : ℕ) → bit_at v k ≡ 0 → get_or table (v % 2 ^ n) false ≡ get_or low (v % 2 ^ k) false
  pub second : (v : ℕ) → bit_at v k ≡ 1 → get_or table (v % 2 ^ n) false ≡ get_or high (v % 2 ^ k) false

pub halves : (k n : ℕ) (table low high : List Bool) → n ≡ k + 1 → length table ≡ 2 ^ n → low ≡ take (length table / 2) table → high ≡ drop (length table / 2) table
    → Halves k n table low high
halves k n table low high next size front back =
    let h : ℕ = length table / 2 in
    let double : 2 ^ n ≡ 2 ^ k + 2 ^ k = ap (λ t. 2 ^ t) next ∙ pow_next k in
    let half : h ≡ 2 ^ k = omega arith in
    let below : (v : ℕ) → v % 2 ^ k < 2 ^ k = λ v. mod_below v (2 ^ k) (pow_pos k) in
    let turned : n ≡ 1 + k = omega arith in
    let cut : (v : ℕ) → v % 2 ^ n ≡ bit_at v k * 2 ^ k + v % 2 ^ k = λ v. ap (λ t. v % 2 ^ t) turned ∙ mod-pow-add v 1 k in
    let low_at : (s : ℕ) → s < 2 ^ k → get_or low s false ≡ get_or table s false =
    λ s small. ap (λ t. get_or t s false) front ∙ get_or-take h table s false (omega arith) in
    let high_at : (s : ℕ) → s < 2 ^ k → get_or high s false ≡ get_or table (2 ^ k + s) false =
    λ s small. ap (λ t. get_or t s false) back ∙ get_or-drop h table s false ∙ ap (λ i. get_or table (i + s) false) half in
    record {
      low_size = ap length front ∙ omega (arith, length-take h table);
      high_size = ap length back ∙ omega (arith, length-drop h table);
      low_at = low_at;
      high_at = high_at;
      first = λ v e.
          let same : v % 2 ^ n ≡ v % 2 ^ k = cut v ∙ ap (λ b. b * 2 ^ k + v % 2 ^ k) e ∙ omega arith in
          ap (λ i. get_or table i false) same ∙ sym (low_at (v % 2 ^ k) (below v));
      second = λ v e.
          let same : v % 2 ^ n ≡ 2 ^ k + v % 2 ^ k = cut v ∙ ap (λ b. b * 2 ^ k + v % 2 ^ k) e ∙ omega arith in
          ap (λ i. get_or table i false) same ∙ sym (high_at (v % 2 ^ k) (below v));
    }

-- what is added for a number that is held where the table has it
abbrev pub added : Bool → Bool → ℕ
added held there = if held && there then 1 else 0

-- both halves are alike
pub added_alike : (k n v : ℕ) (table low high : List Bool) (held : Bool) → Halves k n table low high → low ≡ high
    → added held (get_or low (v % 2 ^ k) false) ≡ added held (get_or table (v % 2 ^ n) false)
added_alike k n v table low high held parts same = elim (cases_eq (bit_at v k) 0) [
  | inl none ↦ ap (added held) (sym (parts.first v none))
  | inr some ↦
      let one : bit_at v k ≡ 1 = omega (arith, bit_at-lt v k) in
      ap (added held) (ap (λ s. get_or s (v % 2 ^ k) false) same ∙ sym (parts.second v one))
]

only_first : (held low high : Bool) → added (held && true) low + added (held && false) high ≡ added held low
only_first true true high = omega arith
only_first true false high = omega arith
only_first false low high = omega arith

only_second : (held low high : Bool) → added (held && false) low + added (held && true) high ≡ added held high
only_second true low high = omega arith
only_second false low high = omega arith

-- each half adds what it has
pub added_apart : (k n v : ℕ) (table low high : List Bool) (held first second : Bool) → Halves k n table low high
    → first ≡ (held && nat_eq (bit_at v k) 0) → second ≡ (held && nat_eq (bit_at v k) 1)
    → added first (get_or low (v % 2 ^ k) false) + added second (get_or high (v % 2 ^ k) false) ≡ added held (get_or table (v % 2 ^ n) false)
added_apart k n v table low high held first second parts f s =
    let in_low : Bool = get_or low (v % 2 ^ k) false in
    let in_high : Bool = get_or high (v % 2 ^ k) false in
    let given : added first in_low + added second in_high ≡ added (held && nat_eq (bit_at v k) 0) in_low + added (held && nat_eq (bit_at v k) 1) in_high =
    ap (λ b. added b in_low + added second in_high) f ∙ ap (λ b. added (held && nat_eq (bit_at v k) 0) in_low + added b in_high) s in
    elim (cases_eq (bit_at v k) 0) [
      | inl none ↦
          let yes_first : nat_eq (bit_at v k) 0 ≡ true = eq-eqb _ _ none in
          let no_second : nat_eq (bit_at v k) 1 ≡ false = ne_eqb _ _ (λ e. omega arith) in
          given ∙ ap (λ b. added (held && b) in_low + added (held && nat_eq (bit_at v k) 1) in_high) yes_first
          ∙ ap (λ b. added (held && true) in_low + added (held && b) in_high) no_second
          ∙ only_first held in_low in_high ∙ ap (added held) (sym (parts.first v none))
      | inr some ↦
          let one : bit_at v k ≡ 1 = omega (arith, bit_at-lt v k) in
          let no_first : nat_eq (bit_at v k) 0 ≡ false = ne_eqb _ _ some in
          let yes_second : nat_eq (bit_at v k) 1 ≡ true = eq-eqb _ _ one in
          given ∙ ap (λ b. added (held && b) in_low + added (held && nat_eq (bit_at v k) 1) in_high) no_first
          ∙ ap (λ b. added (held && false) in_low + added (held && b) in_high) yes_second
          ∙ only_second held in_low in_high ∙ ap (added held) (sym (parts.second v one))
    ]
