-- Addresses block by block.
use Rattle.std.proofs.Common.{◌≡◌, ℕ, zero, suc, ◌+◌, ◌-◌, ◌*◌, ◌/◌, ◌%◌, ◌^◌, ◌<◌, ◌≤◌, Bool, true, false, ◌&&◌, ◌||◌, nat_le, nat_lt, List, [], ◌∷◌, length, take, get_or, inl, inr, refl, sym, ap, subst, ◌∙◌, arith}
use Rattle.std.proofs.lemmas.Bool.{cases_Bool, cases_lt, or_cases, and_parts, and_from, and_left, le-leb, lt-leb, lt-ltb, le-ltb, leb-true, ltb-true}
use Rattle.std.proofs.lemmas.Nat.{div-add-mod', mod-mul-add, pow-add, pow_pos}
use Rattle.std.proofs.lemmas.List.Folds.{list_any_more}
use Rattle.fws_iv.specs.declared.iv.Iv.{Iv}
use Rattle.fws_iv.specs.Ivs.{has, in_part, IsRegular, IsRegularFrom}
use Rattle.std.proofs.Math.Nat.{mul-le-mul_left, lt_of_mul-lt-mul_left, mod-lt}

in_part-from : (x : Iv) (v : ℕ) → x.lo ≤ v → v ≤ x.hi → in_part x v ≡ true
in_part-from x v a b = and_from (nat_le x.lo v) (nat_le v x.hi) (le-leb x.lo v a) (le-leb v x.hi b)

in_part-true : (x : Iv) (v : ℕ) → in_part x v ≡ true → (x.lo ≤ v) × (v ≤ x.hi)
in_part-true x v h = let p = and_parts (nat_le x.lo v) (nat_le v x.hi) h in (leb-true x.lo v p.0, leb-true v x.hi p.1)

-- a multiple of p below q * p and something below p stay below q * p
multiple_fits : (q p a x : ℕ) → a < q * p → a % p ≡ 0 → x < p → a + x < q * p
multiple_fits q p a x h m lt =
    let k = a / p in
    let whole : p * k + a % p ≡ a = omega arith in
    let below : k < q = lt_of_mul-lt-mul_left p (omega arith) in
    let next : p * (k + 1) ≤ p * q = mul-le-mul_left p (omega arith) in
    omega arith

-- a sum of bits ahead and bits behind has 32 bits
end_fits : (a n x : ℕ) → n ≤ 32 → a < 2 ^ 32 → a % 2 ^ (32 - n) ≡ 0 → a + x % 2 ^ (32 - n) < 2 ^ 32
end_fits a n x h lt m =
    let both : n + (32 - n) ≡ 32 = omega arith in
    let whole : 2 ^ n * 2 ^ (32 - n) ≡ 2 ^ 32 = sym (pow-add 2 n (32 - n)) ∙ ap (λ k. 2 ^ k) both in
    let P : ℕ → Type 0 = λ t. a + x % 2 ^ (32 - n) < t in
    let Q : ℕ → Type 0 = λ t. a < t in
    subst P whole (multiple_fits (2 ^ n) (2 ^ (32 - n)) a (x % 2 ^ (32 - n)) (subst Q (sym whole) lt) m (mod-lt x (pow_pos (32 - n))))

-- what stands for an address has 32 bits
pub end_low : (addr len a : ℕ) → len ≤ 32 → addr < 2 ^ 32 → addr % 2 ^ (32 - len) ≡ 0 → addr + a % 2 ^ (32 - len) < 2 ^ 32
end_low addr len a le lt m = end_fits addr len a le lt m

small : (p : ℕ) → 0 < p → (p - 1) % p ≡ p - 1
small p pos =
    let e : 0 * p + (p - 1) ≡ p - 1 = omega arith in
    let below : p - 1 < p = omega arith in
    ap (λ t. t % p) (sym e) ∙ mod-mul-add 0 p (p - 1) below

-- so has the last of them
pub last_low : (addr len size : ℕ) → size ≡ 2 ^ (32 - len) → len ≤ 32 → addr < 2 ^ 32 → addr % 2 ^ (32 - len) ≡ 0 → addr + (size - 1) < 2 ^ 32
last_low addr len size is le lt m =
    let e = small (2 ^ (32 - len)) (pow_pos (32 - len)) in
    let h = end_fits addr len (2 ^ (32 - len) - 1) le lt m in
    omega (arith, e, h, is)

-- the rest of a number of the block in which from lies
pub in_block : (size from a : ℕ) → 0 < size → from - from % size ≤ a → a < from - from % size + size → a % size ≡ a - (from - from % size)
in_block size from a pos lo hi =
    let start : ℕ = from - from % size in
    let whole = div-add-mod' from size in
    let begins : start ≡ from / size * size = omega arith in
    let stands : a ≡ from / size * size + (a - start) = omega arith in
    let below : a - start < size = omega arith in
    ap (λ t. t % size) stands ∙ mod-mul-add (from / size) size (a - start) below

-- a member of the first intervals lies below the next one
pub starts_behind : (l : ℕ) (s : List Iv) (i : ℕ) (d : Iv) (v : ℕ) → IsRegularFrom l s → i < length s → has (take i s) v ≡ true → v < (get_or s i d).lo
starts_behind l [] i d v r lt h = absurd (omega arith)
starts_behind l (x ∷ s) zero d v r lt h = absurd (cc)
starts_behind l (x ∷ s) (suc i) d v r lt h = elim (or_cases (in_part x v) (has (take i s) v) h) [
  | inl a ↦
      let p = in_part-true x v a in
      let k = starts_from (x.hi + 2) s i d r.2 (omega arith) in
      omega (arith, p, k)
  | inr b ↦ starts_behind (x.hi + 2) s i d v r.2 (omega arith) b
]
  where
    starts_from : (l : ℕ) (s : List Iv) (i : ℕ) (d : Iv) → IsRegularFrom l s → i < length s → l ≤ (get_or s i d).lo
    starts_from l [] i d r lt = absurd (omega arith)
    starts_from l (x ∷ s) zero d r lt = r.0
    starts_from l (x ∷ s) (suc i) d r lt = let k = starts_from (x.hi + 2) s i d r.2 (omega arith) in omega (arith, k, r)

-- an interval isn't empty
pub ordered_at : (l : ℕ) (s : List Iv) (i : ℕ) (d : Iv) → IsRegularFrom l s → i < length s → (get_or s i d).lo ≤ (get_or s i d).hi
ordered_at l [] i d r lt = absurd (omega arith)
ordered_at l (x ∷ s) zero d r lt = r.1
ordered_at l (x ∷ s) (suc i) d r lt = ordered_at (x.hi + 2) s i d r.2 (omega arith)

-- the numbers of an interval are members
pub member_at : (s : List Iv) (i : ℕ) (d : Iv) (v : ℕ) → i < length s → (get_or s i d).lo ≤ v → v ≤ (get_or s i d).hi → has s v ≡ true
member_at [] i d v lt a b = absurd (omega arith)
member_at (x ∷ s) zero d v lt a b = left (in_part x v) (has s v) (in_part-from x v a b)
  where
    left : (x y : Bool) → x ≡ true → (x || y) ≡ true
    left true y e = refl
    left false y e = absurd (cc)
member_at (x ∷ s) (suc i) d v lt a b = right (in_part x v) (has s v) (member_at s i d v (omega arith) a b)
  where
    right : (x y : Bool) → y ≡ true → (x || y) ≡ true
    right true y e = refl
    right false y e = e

-- where the image of an interval lies
pub image_bounds : (s image : List Iv) (i : ℕ) (d : Iv) (base start : ℕ) → s ≡ image → IsRegular image → i < length s
    → ((v : ℕ) → has image v ≡ true → base ≤ v) → ((v : ℕ) → has image v ≡ true → start + v < base + 2 ^ 32)
    → (base ≤ (get_or s i d).lo) × ((get_or s i d).lo ≤ (get_or s i d).hi) × (start + (get_or s i d).hi < base + 2 ^ 32)
image_bounds s image i d base start e r lt above fits =
    let x : Iv = get_or s i d in
    let o : x.lo ≤ x.hi = ordered_at 0 s i d (subst IsRegular (sym e) r) lt in
    let low : has image x.lo ≡ true = ap (λ t. has t x.lo) (sym e) ∙ member_at s i d x.lo lt (omega arith) o in
    let high : has image x.hi ≡ true = ap (λ t. has t x.hi) (sym e) ∙ member_at s i d x.hi lt o (omega arith) in
    (above x.lo low, o, fits x.hi high)

-- what was added before lies below what the next interval adds
pub image_behind : (s image : List Iv) (i : ℕ) (d : Iv) (base start v : ℕ) (out : Bool) → s ≡ image → IsRegular image → i < length s → base ≤ (get_or s i d).lo
    → (out ≡ true → (w : ℕ) → has image w ≡ true → v + base < start + w)
    → (out || (nat_le start v && has (take i s) (base + (v - start)))) ≡ true → v < start + ((get_or s i d).lo - base)
image_behind s image i d base start v out e r lt le behind h =
    let x : Iv = get_or s i d in
    let q : IsRegular s = subst IsRegular (sym e) r in
    let o : x.lo ≤ x.hi = ordered_at 0 s i d q lt in
    let low : has image x.lo ≡ true = ap (λ t. has t x.lo) (sym e) ∙ member_at s i d x.lo lt (omega arith) o in
    elim (or_cases out (nat_le start v && has (take i s) (base + (v - start))) h) [
      | inl a ↦ let b = behind a x.lo low in omega (arith, b, le)
      | inr b ↦
          let p = and_parts (nat_le start v) (has (take i s) (base + (v - start))) b in
          let from : start ≤ v = leb-true start v p.0 in
          let k = starts_behind 0 s i d (base + (v - start)) q lt p.1 in
          omega (arith, from, k, le)
    ]

same_le : (m n k l : ℕ) → (m ≤ n → k ≤ l) → (k ≤ l → m ≤ n) → nat_le m n ≡ nat_le k l
same_le m n k l f g = elim (cases_Bool (nat_le m n)) [
  | inl t ↦ t ∙ sym (le-leb k l (f (leb-true m n t)))
  | inr u ↦ elim (cases_Bool (nat_le k l)) [
    | inl t ↦ le-leb m n (g (leb-true k l t)) ∙ sym t
    | inr t ↦ u ∙ sym t
  ]
]

-- an interval that is moved
moved : (base start lo hi a : ℕ) → base ≤ lo → lo ≤ hi
    → (nat_le (start + (lo - base)) a && nat_le a (start + (hi - base))) ≡ (nat_le start a && (nat_le lo (base + (a - start)) && nat_le (base + (a - start)) hi))
moved base start lo hi a le o = elim (cases_lt a start) [
  | inl lt ↦
      and_left (nat_le (start + (lo - base)) a) (nat_le a (start + (hi - base))) (lt-leb (start + (lo - base)) a (omega arith))
      ∙ sym (and_left (nat_le start a) (nat_le lo (base + (a - start)) && nat_le (base + (a - start)) hi) (lt-leb start a lt))
  | inr ge ↦
      ap (λ b. b && nat_le a (start + (hi - base))) (same_le (start + (lo - base)) a lo (base + (a - start)) (λ h. omega arith) (λ h. omega arith))
      ∙ ap (λ b. nat_le lo (base + (a - start)) && b) (same_le a (start + (hi - base)) (base + (a - start)) hi (λ h. omega arith) (λ h. omega arith))
      ∙ ap (λ b. b && (nat_le lo (base + (a - start)) && nat_le (base + (a - start)) hi)) (sym (le-leb start a ge))
]

joined : (o p t x : Bool) → ((o || (p && t)) || (p && x)) ≡ (o || (p && (t || x)))
joined true p t x = refl
joined false true t x = refl
joined false false t x = refl

-- one more interval of the image
pub image_more : (s : List Iv) (i : ℕ) (d : Iv) (base start a : ℕ) (old out new : Bool) → i < length s → base ≤ (get_or s i d).lo → (get_or s i d).lo ≤ (get_or s i d).hi
    → out ≡ (old || (nat_le start a && has (take i s) (base + (a - start))))
    → new ≡ (out || (nat_le (start + ((get_or s i d).lo - base)) a && nat_le a (start + ((get_or s i d).hi - base))))
    → new ≡ (old || (nat_le start a && has (take (i + 1) s) (base + (a - start))))
image_more s i d base start a old out new lt le o e f =
    let x : Iv = get_or s i d in
    let w : ℕ = base + (a - start) in
    f
    ∙ ap (λ b. b || (nat_le (start + (x.lo - base)) a && nat_le a (start + (x.hi - base)))) e
    ∙ ap (λ b. (old || (nat_le start a && has (take i s) w)) || b) (moved base start x.lo x.hi a le o)
    ∙ joined old (nat_le start a) (has (take i s) w) (in_part x w)
    ∙ ap (λ b. old || (nat_le start a && b)) (sym (list_any_more (λ y. in_part y w) s i d lt))

-- ---- the blocks of a range

within_range : (lo from last a : ℕ) → lo ≤ from → from ≤ last → ((nat_le lo a && nat_lt a from) || (nat_le from a && nat_le a last)) ≡ (nat_le lo a && nat_le a last)
within_range lo from last a p q = elim (cases_lt a from) [
  | inl lt ↦
      rw (lt-ltb a from lt, lt-leb from a lt, le-leb a last (omega arith)) (tail (nat_le lo a))
  | inr ge ↦
      rw (le-ltb a from ge, le-leb from a ge, le-leb lo a (omega arith)) refl
]
  where
    tail : (b : Bool) → ((b && true) || false) ≡ (b && true)
    tail true = refl
    tail false = refl

divided : (old p r t u : Bool) → (r ≡ true → t ≡ u) → ((old || (p && u)) || (r && t)) ≡ (old || ((p || r) && u))
divided true p r t u h = refl
divided false true true t true h = refl
divided false true true t false h = h refl
divided false true false t true h = refl
divided false true false t false h = refl
divided false false true t u h = h refl
divided false false false t u h = refl

-- up to the end of one more block
pub range_more : (set : List Iv) (base size lo from last a : ℕ) (old out new : Bool) → 0 < size → lo ≤ from → from ≤ last → last < from - from % size + size
    → out ≡ (old || ((nat_le lo a && nat_lt a from) && has set (base + a % size)))
    → new ≡ (out || ((nat_le from a && nat_le a last) && has set (base + (a - (from - from % size)))))
    → new ≡ (old || ((nat_le lo a && nat_le a last) && has set (base + a % size)))
range_more set base size lo from last a old out new pos p q below e f =
    let start : ℕ = from - from % size in
    f
    ∙ ap (λ b. b || ((nat_le from a && nat_le a last) && has set (base + (a - start)))) e
    ∙ divided old (nat_le lo a && nat_lt a from) (nat_le from a && nat_le a last) (has set (base + (a - start))) (has set (base + a % size))
    (λ r.
    let both = and_parts (nat_le from a) (nat_le a last) r in
    let first : from ≤ a = leb-true from a both.0 in
    let final : a ≤ last = leb-true a last both.1 in
    ap (λ n. has set (base + n)) (sym (in_block size from a pos (omega arith) (omega arith))))
    ∙ ap (λ b. old || (b && has set (base + a % size))) (within_range lo from last a p q)

-- a bound and the next number
pub next_bound : (a last : ℕ) → nat_le a last ≡ nat_lt a (last + 1)
next_bound a last = elim (cases_lt last a) [
  | inl lt ↦ lt-leb a last lt ∙ sym (le-ltb a (last + 1) (omega arith))
  | inr ge ↦ le-leb a last ge ∙ sym (lt-ltb a (last + 1) (omega arith))
]

-- what was added lies ahead of where the next block begins
pub range_behind : (lo from a : ℕ) (old t : Bool) → lo ≤ from → (old ≡ true → a < lo) → (old || ((nat_le lo a && nat_lt a from) && t)) ≡ true → a < from
range_behind lo from a true t le h e = let b = h refl in omega (arith, b)
range_behind lo from a false t le h e =
    let both = and_parts (nat_le lo a && nat_lt a from) t e in
    let two = and_parts (nat_le lo a) (nat_lt a from) both.0 in
    ltb-true a from two.1

parted : (t p x : Bool) → ((t && x) || (p && x)) ≡ ((t || p) && x)
parted true true true = refl
parted true true false = refl
parted true false true = refl
parted true false false = refl
parted false p x = refl

-- one more interval of the side
pub side_more : (s : List Iv) (i : ℕ) (d : Iv) (a : ℕ) (t out new : Bool) → i < length s → out ≡ (has (take i s) a && t)
    → new ≡ (out || ((nat_le (get_or s i d).lo a && nat_le a (get_or s i d).hi) && t)) → new ≡ (has (take (i + 1) s) a && t)
side_more s i d a t out new lt e f =
    f ∙ ap (λ b. b || (in_part (get_or s i d) a && t)) e ∙ parted (has (take i s) a) (in_part (get_or s i d) a) t
    ∙ ap (λ b. b && t) (sym (list_any_more (λ y. in_part y a) s i d lt))
