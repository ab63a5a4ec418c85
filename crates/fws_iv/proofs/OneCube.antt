-- A set that is one cube.
use Rattle.std.proofs.Common.{◌≡◌, ◌≢◌, ℕ, ◌+◌, ◌*◌, ◌/◌, ◌%◌, ◌^◌, ◌<◌, Bool, true, false, nat_eq, min, bit_and, List, length, get_or, inl, inr, refl, sym, ◌∙◌, ap, subst, arith}
use Rattle.std.proofs.Math.Nat.{add-mod_right}
use Rattle.std.specs.Int.{bit_at}
use Rattle.std.proofs.lemmas.Bool.{cases_Bool, cases_eq, eq-eqb, eqb-true}
use Rattle.std.proofs.lemmas.List.{ext_get_or}
use Rattle.std.proofs.lemmas.Nat.{and_comm, and_or_apart, mod_below, or_disjoint, pow_pos, shr-shr, shr_split}
use Rattle.std.proofs.lemmas.Nat.Bits.{and_pow, bit_at_and, bit_at-lt}
use Rattle.fws_iv.specs.declared.cube.Cube.{Cube}
use Rattle.fws_iv.specs.Cubes.{cube_has, IsCube, LeavesOpen, Narrows, IsEmptyTable, IsTableOf}
use Rattle.fws_iv.proofs.CubeBits.{bit_within, leaves_fewer, quotient_more}
use Rattle.fws_iv.proofs.Powers.{pow_next}
use Rattle.fws_iv.proofs.Tables.{Halves}

-- Bits that are tested

tested : (c : Cube) (v k : ℕ) → cube_has c v ≡ true → bit_at c.mask k ≡ 1 → bit_at v k ≡ bit_at c.want k
tested c v k held one =
    let e : bit_and v c.mask ≡ c.want = eqb-true _ _ held in
    let both : bit_at (bit_and v c.mask) k ≡ min (bit_at v k) (bit_at c.mask k) = bit_at_and v c.mask k in
    let same : bit_at (bit_and v c.mask) k ≡ bit_at c.want k = ap (λ n. bit_at n k) e in
    let low : bit_at v k < 2 = bit_at-lt v k in
    omega (arith, both, same, low, one)

wants_tested : (c : Cube) (k : ℕ) → IsCube c → bit_at c.mask k ≡ 0 → bit_at c.want k ≡ 0
wants_tested c k is none =
    let both : bit_at (bit_and c.want c.mask) k ≡ min (bit_at c.want k) (bit_at c.mask k) = bit_at_and c.want c.mask k in
    let same : bit_at (bit_and c.want c.mask) k ≡ bit_at c.want k = ap (λ n. bit_at n k) is.within in
    omega (arith, both, same, none)

untested : (c : Cube) (v k : ℕ) → bit_at c.mask k ≡ 0 → bit_at v k ≡ 0 → cube_has c (v + 2 ^ k) ≡ cube_has c v
untested c v k none clear =
    let apart : bit_and (2 ^ k) c.mask ≡ 0 = and_comm (2 ^ k) c.mask ∙ and_pow c.mask k ∙ ap (λ b. b * 2 ^ k) none ∙ omega arith in
    let free : bit_and v (2 ^ k) ≡ 0 = and_pow v k ∙ ap (λ b. b * 2 ^ k) clear ∙ omega arith in
    let same : bit_and (v + 2 ^ k) c.mask ≡ bit_and v c.mask = ap (λ n. bit_and n c.mask) (sym (or_disjoint v (2 ^ k) free)) ∙ and_or_apart c.mask v (2 ^ k) apart in
    ap (λ n. nat_eq n c.want) same

wants_itself : (c : Cube) → IsCube c → cube_has c c.want ≡ true
wants_itself c is = eq-eqb _ _ is.within

-- Narrower cubes

quotient : (x k n : ℕ) → n ≡ k + 1 → x / 2 ^ k ≡ 2 * (x / 2 ^ n) + bit_at x k
quotient x k n next =
    let half : x / 2 ^ k / 2 ≡ x / 2 ^ n = shr-shr x k 1 ∙ ap (λ m. x / 2 ^ m) (sym next) in
    omega arith

pub narrows_half : (k n m b : ℕ) (c d e : Cube) → n ≡ k + 1 → Narrows n c d → LeavesOpen n d → bit_at c.mask k ≡ m → bit_at c.want k ≡ b
    → e.mask ≡ d.mask + m * 2 ^ k → e.want ≡ d.want + b * 2 ^ k → Narrows k c e
narrows_half k n m b c d e next within is mbit wbit mask want = record {
  is = within.is;
  mask =
      let here : c.mask / 2 ^ k ≡ 2 * (c.mask / 2 ^ n) + bit_at c.mask k = quotient c.mask k n next in
      let there : e.mask / 2 ^ k ≡ 2 * (d.mask / 2 ^ n) + m = ap (λ x. x / 2 ^ k) mask ∙ quotient_more d.mask k n m next is.mask in
      omega (arith, here, there, within.mask, mbit);
  want =
      let here : c.want / 2 ^ k ≡ 2 * (c.want / 2 ^ n) + bit_at c.want k = quotient c.want k n next in
      let there : e.want / 2 ^ k ≡ 2 * (d.want / 2 ^ n) + b = ap (λ x. x / 2 ^ k) want ∙ quotient_more d.want k n b next is.want in
      omega (arith, here, there, within.want, wbit);
}

-- a bit that isn't tested leaves as much open
pub narrows_open : (k n : ℕ) (c d : Cube) → n ≡ k + 1 → Narrows n c d → LeavesOpen n d → bit_at c.mask k ≡ 0 → Narrows k c d
narrows_open k n c d next within is none =
    narrows_half k n 0 0 c d d next within is none (wants_tested c k within.is none) (omega arith) (omega arith)

-- Tables of one cube

pub empty_low : (k n : ℕ) (table low high : List Bool) → n ≡ k + 1 → Halves k n table low high → IsEmptyTable n table → IsEmptyTable k low
empty_low k n table low high next parts none = λ s small.
    let double : 2 ^ n ≡ 2 ^ k + 2 ^ k = ap (λ t. 2 ^ t) next ∙ pow_next k in
    parts.low_at s small ∙ none s (omega arith)

pub empty_high : (k n : ℕ) (table low high : List Bool) → n ≡ k + 1 → Halves k n table low high → IsEmptyTable n table → IsEmptyTable k high
empty_high k n table low high next parts none = λ s small.
    let double : 2 ^ n ≡ 2 ^ k + 2 ^ k = ap (λ t. 2 ^ t) next ∙ pow_next k in
    parts.high_at s small ∙ none (2 ^ k + s) (omega arith)

pub low_table : (k n want : ℕ) (c : Cube) (table low high : List Bool) → n ≡ k + 1 → Halves k n table low high → IsTableOf n c want table → IsTableOf k c want low
low_table k n want c table low high next parts is = λ s small.
    let double : 2 ^ n ≡ 2 ^ k + 2 ^ k = ap (λ t. 2 ^ t) next ∙ pow_next k in
    parts.low_at s small ∙ is s (omega arith)

pub high_table : (k n want first : ℕ) (c : Cube) (table low high : List Bool) → n ≡ k + 1 → first ≡ want + 2 ^ k → Halves k n table low high → IsTableOf n c want table
    → IsTableOf k c first high
high_table k n want first c table low high next begins parts is = λ s small.
    let double : 2 ^ n ≡ 2 ^ k + 2 ^ k = ap (λ t. 2 ^ t) next ∙ pow_next k in
    let there : want + (2 ^ k + s) ≡ first + s = omega arith in
    parts.high_at s small ∙ is (2 ^ k + s) (omega arith) ∙ ap (cube_has c) there

-- the half whose bit isn't wanted is empty
other_half : (k n b first : ℕ) (c : Cube) (half : List Bool) → n ≡ k + 1 → bit_at c.mask k ≡ 1 → bit_at c.want k ≢ b
    → ((s : ℕ) → s < 2 ^ k → bit_at (first + s) k ≡ b) → IsTableOf k c first half → IsEmptyTable k half
other_half k n b first c half next one other bits is = λ s small. elim (cases_Bool (cube_has c (first + s))) [
  | inl held ↦ absurd (other (sym (tested c (first + s) k held one) ∙ bits s small))
  | inr lacked ↦ is s small ∙ lacked
]

-- a cube has a number
some_member : (k : ℕ) (c e : Cube) (half : List Bool) → Narrows k c e → e.want % 2 ^ k ≡ 0 → IsTableOf k c e.want half → IsEmptyTable k half → ⊥
some_member k c e half within clear is none =
    let s : ℕ = c.want % 2 ^ k in
    let small : s < 2 ^ k = mod_below c.want (2 ^ k) (pow_pos k) in
    let parts : c.want / 2 ^ k * 2 ^ k + s ≡ c.want = shr_split c.want k in
    let others : e.want / 2 ^ k * 2 ^ k + e.want % 2 ^ k ≡ e.want = shr_split e.want k in
    let alike : c.want / 2 ^ k * 2 ^ k ≡ e.want / 2 ^ k * 2 ^ k = ap (λ n. n * 2 ^ k) within.want in
    let there : e.want + s ≡ c.want = omega arith in
    let held : get_or half s false ≡ true = is s small ∙ ap (cube_has c) there ∙ wants_itself c within.is in
    let lacked : get_or half s false ≡ false = none s small in
    absurd (cc)

-- The bit of a number in each half

low_bits : (k n first : ℕ) → n ≡ k + 1 → first % 2 ^ n ≡ 0 → (s : ℕ) → s < 2 ^ k → bit_at (first + s) k ≡ 0
low_bits k n first next clear s small =
    let there : first + (0 * 2 ^ k + s) ≡ first + s = omega arith in
    ap (λ v. bit_at v k) (sym there) ∙ bit_within first k n 0 s next clear (omega arith) small

high_bits : (k n want first : ℕ) → n ≡ k + 1 → want % 2 ^ n ≡ 0 → first ≡ want + 2 ^ k → (s : ℕ) → s < 2 ^ k → bit_at (first + s) k ≡ 1
high_bits k n want first next clear begins s small =
    let there : want + (1 * 2 ^ k + s) ≡ first + s = omega arith in
    ap (λ v. bit_at v k) (sym there) ∙ bit_within want k n 1 s next clear (omega arith) small

-- where the bit isn't tested the halves are alike
pub open_alike : (k n : ℕ) (c d : Cube) (table low high : List Bool) → n ≡ k + 1 → Halves k n table low high → LeavesOpen n d → bit_at c.mask k ≡ 0
    → IsTableOf n c d.want table → low ≡ high
open_alike k n c d table low high next parts is none table_is =
    let first_is = low_table k n d.want c table low high next parts table_is in
    let second_is = high_table k n d.want (d.want + 2 ^ k) c table low high next refl parts table_is in
    ext_get_or false low high (parts.low_size ∙ sym parts.high_size) (λ s within.
    let size : length low ≡ 2 ^ k = parts.low_size in
    let small : s < 2 ^ k = omega arith in
    let turned : d.want + 2 ^ k + s ≡ d.want + s + 2 ^ k = omega arith in
    first_is s small ∙ sym (second_is s small ∙ ap (cube_has c) turned ∙ untested c (d.want + s) k none (low_bits k n d.want next is.want s small)))

-- where it is tested one half is a table of the cube, and the other is empty
pub wanted_low : (k n : ℕ) (c d e : Cube) (table low high : List Bool) → n ≡ k + 1 → Halves k n table low high → Narrows n c d → LeavesOpen n d
    → bit_at c.mask k ≡ 1 → bit_at c.want k ≡ 0 → e.mask ≡ d.mask + 2 ^ k → e.want ≡ d.want + 0 → IsTableOf n c d.want table
    → Narrows k c e × IsTableOf k c e.want low × IsEmptyTable k high
wanted_low k n c d e table low high next parts within is one none mask want table_is = (
  narrows_half k n 1 0 c d e next within is one none (omega arith) (omega arith),
  subst (λ first. IsTableOf k c first low) (let same : d.want ≡ e.want = omega arith in same) (low_table k n d.want c table low high next parts table_is),
  other_half k n 1 (d.want + 2 ^ k) c high next one (λ f. omega arith) (high_bits k n d.want (d.want + 2 ^ k) next is.want refl)
      (high_table k n d.want (d.want + 2 ^ k) c table low high next refl parts table_is),
)

pub wanted_high : (k n : ℕ) (c d e : Cube) (table low high : List Bool) → n ≡ k + 1 → Halves k n table low high → Narrows n c d → LeavesOpen n d
    → bit_at c.mask k ≡ 1 → bit_at c.want k ≡ 1 → e.mask ≡ d.mask + 2 ^ k → e.want ≡ d.want + 2 ^ k → IsTableOf n c d.want table
    → Narrows k c e × IsTableOf k c e.want high × IsEmptyTable k low
wanted_high k n c d e table low high next parts within is one some mask want table_is = (
  narrows_half k n 1 1 c d e next within is one some (omega arith) (omega arith),
  high_table k n d.want e.want c table low high next want parts table_is,
  other_half k n 0 d.want c low next one (λ f. omega arith) (low_bits k n d.want next is.want)
      (low_table k n d.want c table low high next parts table_is),
)

-- where the halves are alike the bit isn't tested
pub alike_open : (k n : ℕ) (c d : Cube) (table low high : List Bool) → n ≡ k + 1 → Halves k n table low high → Narrows n c d → LeavesOpen n d
    → IsTableOf n c d.want table → low ≡ high → bit_at c.mask k ≡ 0
alike_open k n c d table low high next parts within is table_is same = elim (cases_eq (bit_at c.mask k) 0) [
  | inl none ↦ none
  | inr some ↦
      let one : bit_at c.mask k ≡ 1 = omega (arith, bit_at-lt c.mask k) in
      let aligned = leaves_fewer k n d (omega arith) is in
      absurd (elim (cases_eq (bit_at c.want k) 0) [
        | inl low_wanted ↦
            let e : Cube = record { mask = d.mask + 2 ^ k; want = d.want + 0 } in
            let facts = wanted_low k n c d e table low high next parts within is one low_wanted refl refl table_is in
            let clear : e.want % 2 ^ k ≡ 0 = let plain : d.want + 0 ≡ d.want = omega arith in ap (λ x. x % 2 ^ k) plain ∙ aligned.want in
            some_member k c e low facts.0 clear facts.1 (subst (IsEmptyTable k) (sym same) facts.2)
        | inr other ↦
            let high_wanted : bit_at c.want k ≡ 1 = omega (arith, bit_at-lt c.want k) in
            let e : Cube = record { mask = d.mask + 2 ^ k; want = d.want + 2 ^ k } in
            let facts = wanted_high k n c d e table low high next parts within is one high_wanted refl refl table_is in
            some_member k c e high facts.0 (add-mod_right d.want (2 ^ k) ∙ aligned.want) facts.1 (subst (IsEmptyTable k) same facts.2)
      ])
]

-- a cube of which nothing is open is the one that it lies in
pub narrows_none : (c d : Cube) → Narrows 0 c d → c ≡ d
narrows_none c d within =
    let make : ℕ → ℕ → Cube = λ m w. record { mask = m; want = w } in
    let mask : c.mask ≡ d.mask = omega (arith, within.mask) in
    let want : c.want ≡ d.want = omega (arith, within.want) in
    ap (λ m. make m c.want) mask ∙ ap (λ w. make d.mask w) want
