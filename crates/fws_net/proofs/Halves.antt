-- Blocks of addresses and their halves.
use Rattle.std.proofs.Common.{◌≡◌, ℕ, ◌+◌, ◌-◌, ◌*◌, ◌/◌, ◌%◌, ◌^◌, ◌<◌, ◌≤◌, Bool, true, false, ◌&&◌, ◌||◌, nat_eq, nat_lt, inl, inr, List, [], ◌∷◌, ◌++◌, arith, refl, sym, ap, subst, ◌∙◌, eq-eqb}
use Rattle.std.proofs.Math.Nat.{zero-div}
use Rattle.std.proofs.lemmas.Bool.{eqb-true, ne_eqb, lt-ltb, le-ltb, cases_eq, cases_lt}
use Rattle.std.proofs.lemmas.List.Folds.{list_any-append}
use Rattle.std.proofs.lemmas.Nat.{pow_pos, pow-add, shr-shr, field_of, mod-pow-add, div-mul-add, mod-mul-add}
use Rattle.fws_iv.specs.declared.iv.Iv.{Iv}
use Rattle.fws_iv.specs.Ivs.{has, in_part}
use Rattle.fws_iv.specs.Prefixes.{agree, IsBlock}
use Rattle.fws_num.specs.declared.prefix.Prefix.{Prefix}
use Rattle.fws_net.specs.RouteSets.{first_half, second_half}
use Rattle.fws_net.proofs.Ends.{block_within}
use Rattle.fws_net.proofs.Nets.{has_block}

-- Agreement

-- what agrees in more bits agrees in fewer
pub agree_in_fewer : (m n a b : ℕ) → m ≤ n → n ≤ 32 → agree n a b ≡ true → agree m a b ≡ true
agree_in_fewer m n a b le short e =
    let both : 32 - m ≡ (32 - n) + (n - m) = omega arith in
    let fewer : (x : ℕ) → x / 2 ^ (32 - m) ≡ x / 2 ^ (32 - n) / 2 ^ (n - m) =
    λ x. ap (λ k. x / 2 ^ k) both ∙ sym (shr-shr x (32 - n) (n - m)) in
    eq-eqb (a / 2 ^ (32 - m)) (b / 2 ^ (32 - m))
    (fewer a ∙ ap (λ x. x / 2 ^ (n - m)) (eqb-true (a / 2 ^ (32 - n)) (b / 2 ^ (32 - n)) e) ∙ sym (fewer b))

-- two that agree with a third agree
pub agree_both : (n a b c : ℕ) → agree n a b ≡ true → agree n a c ≡ true → agree n b c ≡ true
agree_both n a b c e f =
    eq-eqb (b / 2 ^ (32 - n)) (c / 2 ^ (32 - n))
    (sym (eqb-true (a / 2 ^ (32 - n)) (b / 2 ^ (32 - n)) e) ∙ eqb-true (a / 2 ^ (32 - n)) (c / 2 ^ (32 - n)) f)

pub agree_back : (n a b : ℕ) → agree n a b ≡ true → agree n b a ≡ true
agree_back n a b e =
    eq-eqb (b / 2 ^ (32 - n)) (a / 2 ^ (32 - n)) (sym (eqb-true (a / 2 ^ (32 - n)) (b / 2 ^ (32 - n)) e))

-- every address of 32 bits agrees in no bits
pub agree_everywhere : (v : ℕ) → agree 0 0 v ≡ nat_lt v (2 ^ 32)
agree_everywhere v = elim (cases_lt v (2 ^ 32)) [
  | inl h ↦ let none : 0 ≡ v / 2 ^ 32 = omega arith in eq-eqb 0 (v / 2 ^ 32) none ∙ sym (lt-ltb v (2 ^ 32) h)
  | inr h ↦ ne_eqb 0 (v / 2 ^ 32) (λ e. omega arith) ∙ sym (le-ltb v (2 ^ 32) h)
]

-- Halves

-- an even number and the next are those with one half
even_and_next : (b w : ℕ) → b % 2 ≡ 0 → nat_eq (b / 2) (w / 2) ≡ (nat_eq b w || nat_eq (b + 1) w)
even_and_next b w even = elim (cases_eq b w) [
  | inl same ↦ eq-eqb (b / 2) (w / 2) (ap (λ n. n / 2) same) ∙ sym (ap (λ t. t || nat_eq (b + 1) w) (eq-eqb b w same))
  | inr first ↦ elim (cases_eq (b + 1) w) [
    | inl same ↦ eq-eqb (b / 2) (w / 2) (omega arith)
        ∙ sym (ap (λ t. t || nat_eq (b + 1) w) (ne_eqb b w first) ∙ eq-eqb (b + 1) w same)
    | inr second ↦ ne_eqb (b / 2) (w / 2) (λ e. elim (cases_lt b w) [
      | inl lt ↦ second (omega arith)
      | inr ge ↦ first (omega arith)
    ])
        ∙ sym (ap (λ t. t || nat_eq (b + 1) w) (ne_eqb b w first) ∙ ne_eqb (b + 1) w second)
  ]
]

record Halved (j a : ℕ) : Type 0 where
  even : a / 2 ^ j % 2 ≡ 0
  cleared : a % 2 ^ j ≡ 0
  next : (a + 2 ^ j) / 2 ^ j ≡ a / 2 ^ j + 1
  next_cleared : (a + 2 ^ j) % 2 ^ j ≡ 0

halved : (j a : ℕ) → a % 2 ^ (1 + j) ≡ 0 → Halved j a
halved j a h =
    let parts : (a / 2 ^ j % 2 ^ 1) * 2 ^ j + a % 2 ^ j ≡ 0 = sym (mod-pow-add a 1 j) ∙ h in
    let low : a % 2 ^ j ≡ 0 = omega arith in
    let whole : a / 2 ^ j * 2 ^ j + a % 2 ^ j ≡ a = omega arith in
    let sum : (a / 2 ^ j + 1) * 2 ^ j + 0 ≡ a + 2 ^ j = omega arith in
    record {
      even = sym (field_of a 1 j) ∙ ap (λ n. n / 2 ^ j) h ∙ zero-div (2 ^ j);
      cleared = low;
      next = ap (λ n. n / 2 ^ j) (sym sum) ∙ div-mul-add (a / 2 ^ j + 1) (2 ^ j) 0 (pow_pos j);
      next_cleared = ap (λ n. n % 2 ^ j) (sym sum) ∙ mod-mul-add (a / 2 ^ j + 1) (2 ^ j) 0 (pow_pos j);
    }

block_halved : (block : Prefix) → block.len < 32 → IsBlock block → Halved (31 - block.len) block.addr
block_halved block short is =
    let bits : 32 - block.len ≡ 1 + (31 - block.len) = omega arith in
    halved (31 - block.len) block.addr (ap (λ k. block.addr % 2 ^ k) (sym bits) ∙ is.cleared)

-- the next bit of an address of the block is 0 or 1
pub agree_halves : (block : Prefix) (v : ℕ) → block.len < 32 → IsBlock block
    → agree block.len block.addr v ≡ (agree (block.len + 1) block.addr v || agree (block.len + 1) (block.addr + 2 ^ (31 - block.len)) v)
agree_halves block v short is =
    let j : ℕ = 31 - block.len in
    let a : ℕ = block.addr in
    let h = block_halved block short is in
    let bits : 32 - block.len ≡ j + 1 = omega arith in
    let fewer : 32 - (block.len + 1) ≡ j = omega arith in
    let half : (x : ℕ) → x / 2 ^ (32 - block.len) ≡ x / 2 ^ j / 2 = λ x. ap (λ k. x / 2 ^ k) bits ∙ sym (shr-shr x j 1) in
    ap (λ n. nat_eq n (v / 2 ^ (32 - block.len))) (half a) ∙ ap (λ n. nat_eq (a / 2 ^ j / 2) n) (half v)
    ∙ even_and_next (a / 2 ^ j) (v / 2 ^ j) h.even
    ∙ ap (λ n. nat_eq (a / 2 ^ j) (v / 2 ^ j) || nat_eq n (v / 2 ^ j)) (sym h.next)
    ∙ ap (λ k. nat_eq (a / 2 ^ k) (v / 2 ^ k) || nat_eq ((a + 2 ^ j) / 2 ^ k) (v / 2 ^ k)) (sym fewer)

pub block_ends : (block : Prefix) → IsBlock block → block.addr + (2 ^ (32 - block.len) - 1) < 2 ^ 32
block_ends block is =
    let within : block.addr - block.addr % 2 ^ (32 - block.len) + (2 ^ (32 - block.len) - 1) < 2 ^ 32 = block_within block.addr block.len is.fits in
    let P : ℕ → Type 0 = λ r. block.addr - r + (2 ^ (32 - block.len) - 1) < 2 ^ 32 in
    let ends : block.addr - 0 + (2 ^ (32 - block.len) - 1) < 2 ^ 32 = subst P is.cleared within in
    omega arith

pub second_fits : (block : Prefix) → block.len < 32 → IsBlock block → block.addr + 2 ^ (31 - block.len) < 2 ^ 32
second_fits block short is =
    let bits : 32 - block.len ≡ (31 - block.len) + 1 = omega arith in
    let double : 2 ^ (32 - block.len) ≡ 2 ^ (31 - block.len) * 2 = ap (λ k. 2 ^ k) bits ∙ pow-add 2 (31 - block.len) 1 in
    let some : 0 < 2 ^ (31 - block.len) = pow_pos (31 - block.len) in
    omega (arith, block_ends block is, double, some)

pub first_half_is : (block : Prefix) → block.len < 32 → IsBlock block → IsBlock (first_half block)
first_half_is block short is =
    let fewer : 32 - (block.len + 1) ≡ 31 - block.len = omega arith in
    record {
      short = omega arith;
      fits = is.fits;
      cleared = ap (λ k. block.addr % 2 ^ k) fewer ∙ (block_halved block short is).cleared;
    }

pub second_half_is : (block : Prefix) → block.len < 32 → IsBlock block → IsBlock (second_half block)
second_half_is block short is =
    let fewer : 32 - (block.len + 1) ≡ 31 - block.len = omega arith in
    record {
      short = omega arith;
      fits = second_fits block short is;
      cleared = ap (λ k. (block.addr + 2 ^ (31 - block.len)) % 2 ^ k) fewer ∙ (block_halved block short is).next_cleared;
    }

-- The range of a block

pub has_range : (block : Prefix) (v : ℕ) → IsBlock block
    → has (record { lo = block.addr; hi = block.addr + (2 ^ (32 - block.len) - 1) } ∷ []) v ≡ agree block.len block.addr v
has_range block v is =
    let range : ℕ → Iv = λ lo. record { lo = lo; hi = lo + (2 ^ (32 - block.len) - 1) } in
    let first : block.addr ≡ block.addr - block.addr % 2 ^ (32 - block.len) = omega (arith, is.cleared) in
    ap (λ lo. has (range lo ∷ []) v) first ∙ has_block block.len block.addr v

and-true : (t : Bool) → (t && true) ≡ t
and-true true = refl
and-true false = refl

-- the block's range at the end of others
pub has_one_more : (block : Prefix) (last v : ℕ) (asked : Bool) (old new : List Iv) → IsBlock block
    → last ≡ block.addr + (2 ^ (32 - block.len) - 1) → new ≡ old ++ record { lo = block.addr; hi = last } ∷ [] → asked ≡ true
    → has new v ≡ (has old v || (agree block.len block.addr v && asked))
has_one_more block last v asked old new is ends more wanted =
    let range : ℕ → Iv = λ n. record { lo = block.addr; hi = n } in
    let there : Bool = agree block.len block.addr v in
    ap (λ s. has s v) more ∙ list_any-append (λ x. in_part x v) old (range last ∷ [])
    ∙ ap (λ t. has old v || t) (ap (λ n. has (range n ∷ []) v) ends ∙ has_range block v is ∙ sym (ap (λ t. there && t) wanted ∙ and-true there))
