-- Destinations that are local once an end is written over them.
use Rattle.std.proofs.Common.{◌≡◌, ◌⊎◌, ℕ, ◌+◌, ◌-◌, ◌*◌, ◌/◌, ◌%◌, ◌^◌, ◌<◌, ◌≤◌, Bool, true, false, ◌||◌, Option, Some, None, List, [], ◌∷◌, inl, inr, refl, sym, ◌∙◌, ap, arith, length, get_or, take, MatchOption}
use Rattle.std.proofs.Math.Nat.{add-mod_right, div-add-mod, lt_of_mul-lt-mul_right, mod-eq_of_lt, mod-lt, mul-add-mod_self_left, mul-le-mul_left, zero-mod}
use Rattle.std.proofs.lemmas.Nat.{pow-add}
use Rattle.std.proofs.lemmas.Bool.{both_ways, cases_lt, le-leb, leb-true, and_from, and_parts, or_cases}
use Rattle.std.proofs.lemmas.List.{get_or_default, take_all, take_more}
use Rattle.std.proofs.lemmas.List.Folds.{list_any-append, list_any-from_Any}
use Rattle.std.specs.Prelude.{nat_le}
use Rattle.fws_iv.specs.declared.iv.Iv.{Iv}
use Rattle.fws_iv.specs.Ivs.{has, in_part}
use Rattle.fws_net.specs.declared.outcome.End.{End}
use Rattle.fws_net.specs.Fates.{written_addr}
use Rattle.fws_place.specs.Delivered.{is_kept_local, IsFirstIn, NoneIn, IsIn}
use Rattle.fws_place.specs.Gathered.{HasNone, IsNext}

-- Blocks

-- the rest of a number of a block
rest_of : (block size d : ℕ) → block % size ≡ 0 → block ≤ d → d < block + size → d % size ≡ d - block
rest_of block size d aligned le lt =
    let q : ℕ = block / size in
    let whole : size * q + block % size ≡ block = div-add-mod block size in
    let split : d ≡ size * q + (d - block) = omega arith in
    let low : d - block < size = omega arith in
    ap (λ x. x % size) split ∙ mul-add-mod_self_left size q (d - block) ∙ mod-eq_of_lt low

-- the next block is one
pub next_aligned : (block size : ℕ) → block % size ≡ 0 → (block + size) % size ≡ 0
next_aligned block size aligned = add-mod_right block size ∙ aligned

-- the block in which a number lies
pub block_aligned : (lo size : ℕ) → (lo - lo % size) % size ≡ 0
block_aligned lo size =
    let q : ℕ = lo / size in
    let whole : size * q + lo % size ≡ lo = div-add-mod lo size in
    let split : lo - lo % size ≡ size * q + 0 = omega arith in
    ap (λ x. x % size) split ∙ mul-add-mod_self_left size q 0 ∙ zero-mod size

-- where no local address stands from the place on
pub none_in_block : (local : List Iv) (addr size block from : ℕ) → block % size ≡ 0 → HasNone local (addr + from) (addr + size - 1)
    → NoneIn (is_kept_local local addr size) (block + from) (block + size)
none_in_block local addr size block from aligned none d le lt =
    ap (λ x. has local (addr + x)) (rest_of block size d aligned (omega arith) lt) ∙ none (addr + (d - block)) (omega arith) (omega arith)

-- and where one does
pub first_there : (local : List Iv) (addr size block from v : ℕ) → from < size → block % size ≡ 0 → IsNext local (addr + from) (addr + size - 1) v
    → IsFirstIn (is_kept_local local addr size) (block + from) (block + size) (block + (v - addr))
first_there local addr size block from v low aligned next =
    let begun : addr + from ≤ v = next.begun in
    let within : v ≤ addr + size - 1 = next.within in
    let d : ℕ = block + (v - addr) in
    let ended : block + (v - addr) < block + size = omega arith in
    let back : addr + (block + (v - addr) - block) ≡ v = omega arith in
    record {
      begun = omega arith;
      ended = ended;
      there = ap (λ x. has local (addr + x)) (rest_of block size d aligned (omega arith) ended) ∙ ap (λ x. has local x) back ∙ next.there;
      first = λ y le lt. ap (λ x. has local (addr + x)) (rest_of block size y aligned (omega arith) (omega arith)) ∙ next.first (addr + (y - block)) (omega arith) (omega arith);
    }

-- Ranges

-- what is known of a number that is no greater than a bound
abbrev pub IsUpTo : ℕ → ℕ → Option ℕ → Type 0
IsUpTo d bound o = MatchOption o (bound < d) (λ x. (x ≡ d) × (d ≤ bound) × (x < 2 ^ 32))

-- a first one behind numbers that don't pass
pub first_up_to : (test : ℕ → Bool) (lo from end d hi : ℕ) (o : Option ℕ) → lo ≤ from → NoneIn test lo from → IsFirstIn test from end d → IsUpTo d hi o → IsIn test lo hi o
first_up_to test lo from end d hi None begin before first past = λ y le lt. by y le lt (cases_lt y from)
  where
    by : (y : ℕ) → lo ≤ y → y < hi + 1 → (y < from) ⊎ (from ≤ y) → test y ≡ false
    by y le lt (inl early) = before y le early
    by y le lt (inr late) = first.first y late (omega arith)
first_up_to test lo from end d hi (Some x) begin before first is =
    let begun : from ≤ d = first.begun in
    let same : x ≡ d = is.0 in (
      omega arith,
      (let low : d ≤ hi = is.1 in omega arith),
      ap test same ∙ first.there,
      is.2,
      λ y le lt. early y le (omega arith) (cases_lt y from),
    )
  where
    early : (y : ℕ) → lo ≤ y → y < d → (y < from) ⊎ (from ≤ y) → test y ≡ false
    early y le lt (inl sooner) = before y le sooner
    early y le lt (inr late) = first.first y late lt

-- none in a block from a place on, and none in the next one
pub none_in_two : (local : List Iv) (addr size block lo hi : ℕ) → 0 < size → block % size ≡ 0 → block ≤ lo → NoneIn (is_kept_local local addr size) lo (block + size)
    → NoneIn (is_kept_local local addr size) (block + size + 0) (block + size + size) → NoneIn (is_kept_local local addr size) lo (hi + 1)
none_in_two local addr size block lo hi some aligned begin first second y le lt = by (cases_lt y (block + size))
  where
    by : (y < block + size) ⊎ (block + size ≤ y) → is_kept_local local addr size y ≡ false
    by (inl early) = first y le early
    by (inr late) =
        let next : ℕ = block + size in
        let t : ℕ = y % size in
        let low : y % size < size = mod-lt y some in
        let same : (next + t) % size ≡ next + t - next = rest_of next size (next + t) (next_aligned block size aligned) (omega arith) (omega arith) in
        let back : next + t - next ≡ t = omega arith in
        ap (λ x. has local (addr + x)) (sym (same ∙ back)) ∙ second (next + t) (omega arith) (omega arith)

-- Sides

-- one more range
pub parts_more : (test : ℕ → Bool) (parts : List Iv) (i : ℕ) (d : Iv) → i < length parts → ((x : ℕ) → has (take i parts) x ≡ true → test x ≡ false)
    → NoneIn test (get_or parts i d).lo ((get_or parts i d).hi + 1) → (x : ℕ) → has (take (i + 1) parts) x ≡ true → test x ≡ false
parts_more test parts i d lt before here x h =
    let part : Iv = get_or parts i d in
    let split : (has (take i parts) x || has (part ∷ []) x) ≡ true
    = sym (list_any-append (λ p. in_part p x) (take i parts) (part ∷ [])) ∙ ap (λ l. has l x) (sym (take_more parts i d lt)) ∙ h in
    elim (or_cases (has (take i parts) x) (has (part ∷ []) x) split) [
      | inl early ↦ before x early
      | inr late ↦ elim (or_cases (in_part part x) false late) [
        | inl inside ↦
            let both = and_parts (nat_le part.lo x) (nat_le x part.hi) inside in
            let low : part.lo ≤ x = leb-true part.lo x both.0 in
            let high : x ≤ part.hi = leb-true x part.hi both.1 in
            here x low (omega arith)
        | inr never ↦ absurd (both_ways false refl never)
      ]
    ]

-- a number of one of the ranges
pub part_has : (parts : List Iv) (i : ℕ) (d : Iv) (x : ℕ) → i < length parts → (get_or parts i d).lo ≤ x → x ≤ (get_or parts i d).hi → has parts x ≡ true
part_has parts i d x lt low high =
    let part : Iv = get_or parts i d in
    list_any-from_Any (λ p. in_part p x) parts
    (i, part, lt, get_or_default parts i part d lt, and_from (nat_le part.lo x) (nat_le x part.hi) (le-leb part.lo x low) (le-leb x part.hi high))

pub parts_all : (test : ℕ → Bool) (parts : List Iv) (i : ℕ) → length parts ≤ i → ((x : ℕ) → has (take i parts) x ≡ true → test x ≡ false) → (x : ℕ) → has parts x ≡ true → test x ≡ false
parts_all test parts i le none x h = none x (ap (λ l. has l x) (take_all i parts le) ∙ h)

-- Ends

-- where no end is written the destination stays
pub kept_whole : (local side : List Iv) (o : Option ℕ)
    → MatchOption o ((d : ℕ) → has side d ≡ true → is_kept_local local 0 4294967296 d ≡ false) (λ d. (d < 2 ^ 32) × (has side d ≡ true) × (is_kept_local local 0 4294967296 d ≡ true))
    → MatchOption o ((d : ℕ) → d < 2 ^ 32 → has side d ≡ true → has local (written_addr None d) ≡ true → ⊥) (λ d. (has side d ≡ true) × (has local (written_addr None d) ≡ true) × (d < 2 ^ 32))
kept_whole local side None none = λ d low there here. both_ways (is_kept_local local 0 4294967296 d) (none d there) (ap (λ x. has local x) (whole d low) ∙ here)
  where
    whole : (d : ℕ) → d < 2 ^ 32 → 0 + d % 4294967296 ≡ d
    whole d low = (let same : d % 4294967296 ≡ d = mod-eq_of_lt low in omega arith)
kept_whole local side (Some d) is = (is.1, ap (λ x. has local x) (sym (whole d is.0)) ∙ is.2, is.0)
  where
    whole : (x : ℕ) → x < 2 ^ 32 → 0 + x % 4294967296 ≡ x
    whole x low = (let same : x % 4294967296 ≡ x = mod-eq_of_lt low in omega arith)

pub kept_end : (local side : List Iv) (e : End) (size : ℕ) (o : Option ℕ) → size ≡ 2 ^ (32 - e.len)
    → MatchOption o ((d : ℕ) → has side d ≡ true → is_kept_local local e.addr size d ≡ false) (λ d. (d < 2 ^ 32) × (has side d ≡ true) × (is_kept_local local e.addr size d ≡ true))
    → MatchOption o ((d : ℕ) → d < 2 ^ 32 → has side d ≡ true → has local (written_addr (Some e) d) ≡ true → ⊥) (λ d. (has side d ≡ true) × (has local (written_addr (Some e) d) ≡ true) × (d < 2 ^ 32))
kept_end local side e size None same none = λ d low there here. both_ways (is_kept_local local e.addr size d) (none d there) (ap (λ s. has local (e.addr + d % s)) same ∙ here)
kept_end local side e size (Some d) same is = (is.1, ap (λ s. has local (e.addr + d % s)) (sym same) ∙ is.2, is.0)

-- an end's addresses are addresses
pub end_fits : (addr len : ℕ) → len ≤ 32 → addr < 2 ^ 32 → addr % 2 ^ (32 - len) ≡ 0 → addr + 2 ^ (32 - len) ≤ 2 ^ 32
end_fits addr len le low clear =
    let s : ℕ = 2 ^ (32 - len) in
    let q : ℕ = addr / s in
    let exponent : len + (32 - len) ≡ 32 = omega arith in
    let whole : 2 ^ len * s ≡ 4294967296 = sym (pow-add 2 len (32 - len)) ∙ ap (λ k. 2 ^ k) exponent in
    let split : s * q + addr % s ≡ addr = div-add-mod addr s in
    let below : q * s < 2 ^ len * s = omega (arith, split, clear, whole, low) in
    let fewer : q < 2 ^ len = lt_of_mul-lt-mul_right s below in
    let few : q + 1 ≤ 2 ^ len = omega (arith, fewer) in
    let room : s * (q + 1) ≤ s * 2 ^ len = mul-le-mul_left s few in
    omega (arith, split, clear, whole, room)
