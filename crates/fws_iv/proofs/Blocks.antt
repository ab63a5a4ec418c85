-- Prefixes that ascend, and the addresses that they have.
use Rattle.std.proofs.Common.{◌≡◌, ℕ, suc, ◌+◌, ◌-◌, ◌*◌, ◌/◌, ◌%◌, ◌^◌, ◌<◌, ◌≤◌, Bool, true, false, ◌&&◌, ◌||◌, nat_eq, nat_le, nat_lt, List, [], ◌∷◌, ◌++◌, All, inl, inr, refl, sym, ◌∙◌, ap, subst, arith}
use Rattle.std.proofs.Math.Nat.{mul-le-mul_left}
use Rattle.std.proofs.lemmas.Bool.{cases_order}
use Rattle.std.proofs.lemmas.Bool.Decides.{nat_tests}
use Rattle.std.proofs.lemmas.List.Elements.{All-push}
use Rattle.std.proofs.lemmas.List.Folds.{list_any-append}
use Rattle.std.proofs.lemmas.Nat.{pow_pos}
use Rattle.fws_num.specs.declared.prefix.Prefix.{Prefix}
use Rattle.fws_iv.specs.Prefixes.{prefix_has, some_prefix_has, AddsRange, AscendFrom, behind, EndBy, IsBlock}

-- A prefix as a range

-- the numbers with the quotient of a multiple are those from the multiple to the next
same_quotient : (s a v : ℕ) → 0 < s → a % s ≡ 0 → nat_eq (a / s) (v / s) ≡ (nat_le a v && nat_lt v (a + s))
same_quotient s a v pos whole =
    let begins : s * (a / s) + a % s ≡ a = omega arith in
    let stands : s * (v / s) + v % s ≡ v = omega arith in
    let small : v % s < s = omega arith in
    elim (cases_order (a / s) (v / s)) [
      | inl e ↦ let m : s * (a / s) ≡ s * (v / s) = ap (λ t. s * t) e in grind (arith, nat_tests)
      | inr d ↦ elim d [
        | inl lt ↦ let m : s * suc (a / s) ≤ s * (v / s) = mul-le-mul_left s lt in grind (arith, nat_tests)
        | inr gt ↦ let m : s * suc (v / s) ≤ s * (a / s) = mul-le-mul_left s gt in grind (arith, nat_tests)
      ]
    ]

pub has_range : (p : Prefix) (v : ℕ) → p.addr % 2 ^ (32 - p.len) ≡ 0 → prefix_has p v ≡ (nat_le p.addr v && nat_lt v (p.addr + 2 ^ (32 - p.len)))
has_range p v whole = same_quotient (2 ^ (32 - p.len)) p.addr v (pow_pos (32 - p.len)) whole

-- One prefix more

pub ascend-push : (l : ℕ) (ps : List Prefix) (p : Prefix) → AscendFrom l ps → behind l ps ≤ p.addr → AscendFrom l (ps ++ p ∷ [])
ascend-push l [] p rise room = (room, tt)
ascend-push l (q ∷ ps) p rise room = (rise.0, ascend-push (q.addr + 2 ^ (32 - q.len)) ps p rise.1 room)

pub behind-push : (l : ℕ) (ps : List Prefix) (p : Prefix) → behind l (ps ++ p ∷ []) ≡ p.addr + 2 ^ (32 - p.len)
behind-push l [] p = refl
behind-push l (q ∷ ps) p = behind-push (q.addr + 2 ^ (32 - q.len)) ps p

or_false : (a b : Bool) → (a || (b || false)) ≡ (a || b)
or_false true b = refl
or_false false true = refl
or_false false false = refl

pub some-push : (ps : List Prefix) (p : Prefix) (v : ℕ) → some_prefix_has (ps ++ p ∷ []) v ≡ (some_prefix_has ps v || prefix_has p v)
some-push ps p v = list_any-append (λ q. prefix_has q v) ps (p ∷ []) ∙ or_false (some_prefix_has ps v) (prefix_has p v)

-- the block of 2 ^ bits numbers at the end of others
pub block_ends : (old new : List Prefix) (from bits : ℕ) → bits ≤ 32 → from % 2 ^ bits ≡ 0 → from + 2 ^ bits ≤ 2 ^ 32 → EndBy from old
    → new ≡ old ++ record { addr = from; len = 32 - bits } ∷ [] → EndBy (from + 2 ^ bits) new
block_ends old new from bits short whole fits ends more =
    let p : Prefix = record { addr = from; len = 32 - bits } in
    let back : 32 - p.len ≡ bits = omega arith in
    let size : 2 ^ (32 - p.len) ≡ 2 ^ bits = ap (λ k. 2 ^ k) back in
    let clear : p.addr % 2 ^ (32 - p.len) ≡ 0 = ap (λ s. from % s) size ∙ whole in
    let low : from < 2 ^ 32 = let some = pow_pos bits in omega arith in
    record {
      sound = subst (All IsBlock) (sym more) (All-push IsBlock old p ends.sound (record { short = omega arith; fits = low; cleared = clear }));
      ascending = subst (AscendFrom 0) (sym more) (ascend-push 0 old p ends.ascending ends.room);
      room = let last : behind 0 new ≡ from + 2 ^ bits = ap (behind 0) more ∙ behind-push 0 old p ∙ ap (λ s. from + s) size in omega arith;
    }

pub block_added : (old new : List Prefix) (from bits : ℕ) → bits ≤ 32 → from % 2 ^ bits ≡ 0 → new ≡ old ++ record { addr = from; len = 32 - bits } ∷ []
    → AddsRange old new from (from + 2 ^ bits)
block_added old new from bits short whole more = λ v.
    let p : Prefix = record { addr = from; len = 32 - bits } in
    let back : 32 - p.len ≡ bits = omega arith in
    let size : 2 ^ (32 - p.len) ≡ 2 ^ bits = ap (λ k. 2 ^ k) back in
    let clear : p.addr % 2 ^ (32 - p.len) ≡ 0 = ap (λ s. from % s) size ∙ whole in
    ap (λ ps. some_prefix_has ps v) more ∙ some-push old p v
    ∙ ap (λ t. some_prefix_has old v || t) (has_range p v clear ∙ ap (λ s. nat_le from v && nat_lt v (from + s)) size)
