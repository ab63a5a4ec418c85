-- The bits that a cube tests.
use Rattle.std.proofs.Common.{◌≡◌, ◌≢◌, ℕ, zero, suc, ◌+◌, ◌*◌, ◌/◌, ◌%◌, ◌^◌, ◌<◌, ◌≤◌, ◌&&◌, nat_eq, bit_and, bit_or, inl, inr, refl, sym, ◌∙◌, ap, subst, arith}
use Rattle.std.specs.Int.{bit_at}
use Rattle.std.specs.Int.Bits.{and_zero_r}
use Rattle.std.proofs.lemmas.Bool.{cases_eq}
use Rattle.std.proofs.lemmas.Bool.Decides.{nat_tests}
use Rattle.std.proofs.lemmas.Nat.{pow_pos, pow_below, shr_split, mod_below, and_block, or_shifted, or_lt, div-mul-add, same_from_place}
use Rattle.std.proofs.lemmas.Nat.Bits.{and_pow, bit_at-lt}
use Rattle.fws_iv.specs.declared.cube.Cube.{Cube}
use Rattle.fws_iv.specs.Cubes.{cube_has, LeavesOpen}
use Rattle.fws_iv.proofs.Powers.{aligned_below, aligned_more, pow_next}

-- `&` of two numbers that are cut at one place
and_cut : (k q r m s v w : ℕ) → q * 2 ^ k + r ≡ v → m * 2 ^ k + s ≡ w → r < 2 ^ k → s < 2 ^ k → bit_and v w ≡ bit_and q m * 2 ^ k + bit_and r s
and_cut k q r m s v w ev ew lr ls = let e = and_block k q m r s lr ls in cc

-- a number without the lowest k bits, by its quotient
whole : (m k : ℕ) → m % 2 ^ k ≡ 0 → m / 2 ^ k * 2 ^ k + 0 ≡ m
whole m k e = omega (arith, shr_split m k)

-- `&` with a number without the lowest bits has none of them either
pub and_whole : (v m k : ℕ) → m % 2 ^ k ≡ 0 → bit_and v m ≡ bit_and (v / 2 ^ k) (m / 2 ^ k) * 2 ^ k
and_whole v m k e =
    let cut = and_cut k (v / 2 ^ k) (v % 2 ^ k) (m / 2 ^ k) 0 v m (shr_split v k) (whole m k e) (mod_below v (2 ^ k) (pow_pos k)) (pow_pos k) in
    let none = and_zero_r (v % 2 ^ k) in
    omega (arith, cut, none)

-- `&` with one bit more, below all others
pub and_more : (v m k : ℕ) → m % 2 ^ (k + 1) ≡ 0 → bit_and v (m + 2 ^ k) ≡ bit_and v m + bit_at v k * 2 ^ k
and_more v m k e =
    let n : ℕ = k + 1 in
    let p : ℕ = 2 ^ k in
    let q : ℕ = v / 2 ^ n in
    let r : ℕ = v % 2 ^ n in
    let small : p < 2 ^ n = pow_below k n (omega arith) in
    let low : r < 2 ^ n = mod_below v (2 ^ n) (pow_pos n) in
    let both : m / 2 ^ n * 2 ^ n + p ≡ m + p = omega (arith, whole m n e) in
    let alone : 0 * 2 ^ n + p ≡ p = omega arith in
    let cut : bit_and v (m + p) ≡ bit_and q (m / 2 ^ n) * 2 ^ n + bit_and r p = and_cut n q r (m / 2 ^ n) p v (m + p) (shr_split v n) both low small in
    let bit : bit_and v p ≡ bit_and q 0 * 2 ^ n + bit_and r p = and_cut n q r 0 p v p (shr_split v n) alone low small in
    let none : bit_and q 0 * 2 ^ n ≡ 0 = ap (λ t. t * 2 ^ n) (and_zero_r q) ∙ omega arith in
    omega (arith, cut, bit, none, and_whole v m n e, and_pow v k)

pub or_more : (m k : ℕ) → m % 2 ^ (k + 1) ≡ 0 → bit_or m (2 ^ k) ≡ m + 2 ^ k
or_more m k e =
    let n : ℕ = k + 1 in
    let is : m / 2 ^ n * 2 ^ n ≡ m = omega (arith, whole m n e) in
    ap (λ t. bit_or t (2 ^ k)) (sym is) ∙ or_shifted (m / 2 ^ n) n (2 ^ k) (pow_below k n (omega arith)) ∙ ap (λ t. t + 2 ^ k) is

-- what stands from a place on: one bit, below all others
quotient_of_sum : (w k n b s : ℕ) → n ≡ k + 1 → w % 2 ^ n ≡ 0 → s < 2 ^ k → (w + (b * 2 ^ k + s)) / 2 ^ k ≡ 2 * (w / 2 ^ n) + b
quotient_of_sum w k n b s next e small =
    let x : ℕ = w / 2 ^ n in
    let double : 2 ^ n ≡ 2 ^ k + 2 ^ k = ap (λ t. 2 ^ t) next ∙ pow_next k in
    let is : x * 2 ^ n ≡ w = omega (arith, whole w n e) in
    let turned : x * 2 ^ n ≡ x * (2 ^ k + 2 ^ k) = ap (λ t. x * t) double in
    let sum : (2 * x + b) * 2 ^ k + s ≡ w + (b * 2 ^ k + s) = omega arith in
    ap (λ t. t / 2 ^ k) (sym sum) ∙ div-mul-add (2 * x + b) (2 ^ k) s small

pub bit_within : (w k n b s : ℕ) → n ≡ k + 1 → w % 2 ^ n ≡ 0 → b < 2 → s < 2 ^ k → bit_at (w + (b * 2 ^ k + s)) k ≡ b
bit_within w k n b s next e low small = ap (λ t. t % 2) (quotient_of_sum w k n b s next e small) ∙ omega arith

pub quotient_more : (w k n b : ℕ) → n ≡ k + 1 → w % 2 ^ n ≡ 0 → (w + b * 2 ^ k) / 2 ^ k ≡ 2 * (w / 2 ^ n) + b
quotient_more w k n b next e =
    let plain : w + b * 2 ^ k ≡ w + (b * 2 ^ k + 0) = omega arith in
    ap (λ t. t / 2 ^ k) plain ∙ quotient_of_sum w k n b 0 next e (pow_pos k)

bit_of_sum : (w k b : ℕ) → w % 2 ^ (k + 1) ≡ 0 → b < 2 → bit_at (w + b * 2 ^ k) k ≡ b
bit_of_sum w k b e low = ap (λ t. t % 2) (quotient_more w k (k + 1) b refl e) ∙ omega arith

-- two numbers with one further bit each are equal where both parts are
pub bit_fits : (n p s : ℕ) → 0 < p → s ≡ p + p → n < 2 → n * p < s
bit_fits zero p s some twice low = omega arith
bit_fits (suc zero) p s some twice low = omega arith
bit_fits (suc (suc n)) p s some twice low = absurd (omega arith)

equal_parts : (x y t b p s : ℕ) → 0 < p → s ≡ p + p → t < 2 → b < 2 → nat_eq (x * s + t * p) (y * s + b * p) ≡ (nat_eq (x * s) (y * s) && nat_eq t b)
equal_parts x y t b p s some twice lt lb = elim (cases_eq t b) [
  | inl e ↦ let f : t * p ≡ b * p = ap (λ n. n * p) e in grind (arith, nat_tests)
  | inr d ↦
      let other : x * s + t * p ≢ y * s + b * p = λ e.
      let parts = same_from_place x (t * p) y (b * p) s (bit_fits t p s some twice lt) (bit_fits b p s some twice lb) e in
      d (sym (div-mul-add t p 0 some) ∙ ap (λ n. (n + 0) / p) parts.1 ∙ div-mul-add b p 0 some) in
      grind (arith, nat_tests, other)
]

-- the half of a cube in which one bit more is tested
pub record HalfOf (k b : ℕ) (c d : Cube) : Type 0 where
  pub is_open : LeavesOpen k d
  pub members : (v : ℕ) → cube_has d v ≡ (cube_has c v && nat_eq (bit_at v k) b)

half_members : (k b m w v : ℕ) → b < 2 → m % 2 ^ (k + 1) ≡ 0 → w % 2 ^ (k + 1) ≡ 0
    → nat_eq (bit_and v (m + 2 ^ k)) (w + b * 2 ^ k) ≡ (nat_eq (bit_and v m) w && nat_eq (bit_at v k) b)
half_members k b m w v low em ew =
    let s : ℕ = 2 ^ (k + 1) in
    let x : ℕ = bit_and (v / s) (m / s) in
    let y : ℕ = w / s in
    let is_x : bit_and v m ≡ x * s = and_whole v m (k + 1) em in
    let is_y : w ≡ y * s = omega (arith, whole w (k + 1) ew) in
    let parts = equal_parts x y (bit_at v k) b (2 ^ k) s (pow_pos k) (pow_next k) (bit_at-lt v k) low in
    ap (λ n. nat_eq n (w + b * 2 ^ k)) (and_more v m k em)
    ∙ ap (λ n. nat_eq (n + bit_at v k * 2 ^ k) (w + b * 2 ^ k)) is_x
    ∙ ap (λ n. nat_eq (x * s + bit_at v k * 2 ^ k) (n + b * 2 ^ k)) is_y
    ∙ parts
    ∙ ap (λ n. nat_eq n (y * s) && nat_eq (bit_at v k) b) (sym is_x)
    ∙ ap (λ n. nat_eq (bit_and v m) n && nat_eq (bit_at v k) b) (sym is_y)

-- the tested bits of what is wanted are wanted
half_within : (k b m w : ℕ) → b < 2 → m % 2 ^ (k + 1) ≡ 0 → w % 2 ^ (k + 1) ≡ 0 → bit_and w m ≡ w → bit_and (w + b * 2 ^ k) (m + 2 ^ k) ≡ w + b * 2 ^ k
half_within k b m w low em ew within =
    let s : ℕ = 2 ^ (k + 1) in
    let n : ℕ = k + 1 in
    let fits : b * 2 ^ k < s = bit_fits b (2 ^ k) s (pow_pos k) (pow_next k) low in
    let is : w / s * s + b * 2 ^ k ≡ w + b * 2 ^ k = omega (arith, whole w n ew) in
    let plain = and_cut n (w / s) 0 (m / s) 0 w m (whole w n ew) (whole m n em) (pow_pos n) (pow_pos n) in
    let more = and_cut n (w / s) (b * 2 ^ k) (m / s) 0 (w + b * 2 ^ k) m is (whole m n em) fits (pow_pos n) in
    let rest : bit_and (w + b * 2 ^ k) m ≡ w = omega (arith, plain, more, and_zero_r (b * 2 ^ k), and_zero_r 0) in
    and_more (w + b * 2 ^ k) m k em ∙ ap (λ t. t + bit_at (w + b * 2 ^ k) k * 2 ^ k) rest
    ∙ ap (λ t. w + t * 2 ^ k) (bit_of_sum w k b ew low)

half_aligned : (k b w : ℕ) → b < 2 → w % 2 ^ (k + 1) ≡ 0 → (w + b * 2 ^ k) % 2 ^ k ≡ 0
half_aligned k zero w low e = let none : w + 0 * 2 ^ k ≡ w = omega arith in ap (λ n. n % 2 ^ k) none ∙ aligned_below w k (k + 1) (omega arith) e
half_aligned k (suc zero) w low e =
    let one : w + 1 * 2 ^ k ≡ w + 2 ^ k = omega arith in
    ap (λ n. n % 2 ^ k) one ∙ aligned_more w k k (omega arith) (aligned_below w k (k + 1) (omega arith) e)
half_aligned k (suc (suc b)) w low e = absurd (omega arith)

pub half_of : (k b : ℕ) (c d : Cube) → k < 6 → b < 2 → LeavesOpen (k + 1) c → d.mask ≡ c.mask + 2 ^ k → d.want ≡ c.want + b * 2 ^ k → HalfOf k b c d
half_of k b c d low bit is mask want =
    let under : c.mask + 2 ^ k < 2 ^ 6 = subst (λ n. n < 2 ^ 6) (or_more c.mask k is.mask) (or_lt 6 c.mask (2 ^ k) is.is.below (pow_below k 6 low)) in
    let wanted : d.want % 2 ^ k ≡ 0 = ap (λ n. n % 2 ^ k) want ∙ half_aligned k b c.want bit is.want in
    record {
      is_open = record {
        is = record {
          below = omega arith;
          within = ap (λ n. bit_and n d.mask) want ∙ ap (λ n. bit_and (c.want + b * 2 ^ k) n) mask ∙ half_within k b c.mask c.want bit is.mask is.want is.is.within ∙ sym want;
        };
        mask = ap (λ n. n % 2 ^ k) mask ∙ aligned_more c.mask k k (omega arith) (aligned_below c.mask k (k + 1) (omega arith) is.mask);
        want = wanted;
      };
      members = λ v. ap (λ n. nat_eq (bit_and v n) d.want) mask ∙ ap (λ n. nat_eq (bit_and v (c.mask + 2 ^ k)) n) want ∙ half_members k b c.mask c.want v bit is.mask is.want;
    }

-- what leaves more bits open leaves fewer open
pub leaves_fewer : (k n : ℕ) (c : Cube) → k ≤ n → LeavesOpen n c → LeavesOpen k c
leaves_fewer k n c le is = record {
  is = is.is;
  mask = aligned_below c.mask k n le is.mask;
  want = aligned_below c.want k n le is.want;
}
