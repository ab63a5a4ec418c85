-- Members of a set lie between where its first interval begins and where its last one ends.
use Rattle.std.proofs.Common.{◌≡◌, ℕ, zero, suc, ◌+◌, ◌≤◌, true, List, [], ◌∷◌, inl, inr, arith, length, get_or, nat_le}
use Rattle.std.proofs.lemmas.Bool.{leb-true, or_cases, and_parts}
use Rattle.fws_iv.specs.declared.iv.Iv.{Iv}
use Rattle.fws_iv.specs.Ivs.{in_part, has, IsRegularFrom}

in_part-true : (x : Iv) (v : ℕ) → in_part x v ≡ true → (x.lo ≤ v) × (v ≤ x.hi)
in_part-true x v h = let p = and_parts (nat_le x.lo v) (nat_le v x.hi) h in (leb-true x.lo v p.0, leb-true v x.hi p.1)

-- the last interval ends at the number at which the list begins, or past it
past_start : (from : ℕ) (s : List Iv) (n : ℕ) (d : Iv) → IsRegularFrom from s → length s ≡ suc n → from ≤ (get_or s n d).hi
past_start from [] n d r len = absurd (omega arith)
past_start from (x ∷ s) zero d r len = omega (arith, r)
past_start from (x ∷ s) (suc n) d r len = let k = past_start (x.hi + 2) s n d r.2 (omega arith) in omega (arith, r, k)

-- the last interval ends where the first one begins, or past it
pub span : (from : ℕ) (s : List Iv) (n : ℕ) (d e : Iv) → IsRegularFrom from s → length s ≡ suc n → (get_or s 0 d).lo ≤ (get_or s n e).hi
span from [] n d e r len = absurd (omega arith)
span from (x ∷ s) zero d e r len = r.1
span from (x ∷ s) (suc n) d e r len = let k = past_start (x.hi + 2) s n e r.2 (omega arith) in omega (arith, r, k)

-- no member is below the number at which the list begins
from_start : (from : ℕ) (s : List Iv) → IsRegularFrom from s → (v : ℕ) → has s v ≡ true → from ≤ v
from_start from [] r v h = absurd (cc)
from_start from (x ∷ s) r v h = elim (or_cases (in_part x v) (has s v) h) [
  | inl a ↦ let p = in_part-true x v a in omega (arith, r, p)
  | inr b ↦ let k = from_start (x.hi + 2) s r.2 v b in omega (arith, r, k)
]

-- a member is no less than the one, and no greater than the other
pub from_first : (from : ℕ) (s : List Iv) (d : Iv) → IsRegularFrom from s → (v : ℕ) → has s v ≡ true → (get_or s 0 d).lo ≤ v
from_first from [] d r v h = absurd (cc)
from_first from (x ∷ s) d r v h = elim (or_cases (in_part x v) (has s v) h) [
  | inl a ↦ let p = in_part-true x v a in p.0
  | inr b ↦ let k = from_start (x.hi + 2) s r.2 v b in omega (arith, r, k)
]

pub to_last : (from : ℕ) (s : List Iv) (n : ℕ) (d : Iv) → IsRegularFrom from s → length s ≡ suc n → (v : ℕ) → has s v ≡ true → v ≤ (get_or s n d).hi
to_last from [] n d r len v h = absurd (omega arith)
to_last from (x ∷ []) zero d r len v h = elim (or_cases (in_part x v) (has [] v) h) [
  | inl a ↦ let p = in_part-true x v a in p.1
  | inr b ↦ absurd (cc)
]
to_last from (x ∷ y ∷ s) zero d r len v h = absurd (omega arith)
to_last from (x ∷ s) (suc n) d r len v h = elim (or_cases (in_part x v) (has s v) h) [
  | inl a ↦ let p = in_part-true x v a in let k = past_start (x.hi + 2) s n d r.2 (omega arith) in omega (arith, p, k)
  | inr b ↦ to_last (x.hi + 2) s n d r.2 (omega arith) v b
]
