-- The parts of a block.
use Rattle.std.proofs.Common.{◌≡◌, ℕ, suc, ◌+◌, ◌-◌, ◌*◌, ◌/◌, ◌%◌, ◌^◌, ◌<◌, ◌≤◌, Bool, true, false, ◌||◌, nat_eq, nat_le, nat_lt, List, [], ◌∷◌, ◌++◌, All, arith, refl, sym, ap, subst, ◌∙◌}
use Rattle.std.proofs.lemmas.Bool.{false≢true, and_parts, and_from, leb-true, le-leb, ltb-true, ltb-false}
use Rattle.std.proofs.lemmas.List.Elements.{All-push}
use Rattle.std.proofs.lemmas.Nat.{pow-add, pow_pos, div-add-mod'}
use Rattle.std.proofs.Math.Nat.{le_refl, mul-le-mul_left, mul-mod_left}
use Rattle.fws_iv.specs.Prefixes.{IsBlock, prefix_has, some_prefix_has}
use Rattle.fws_num.specs.declared.prefix.Prefix.{Prefix}
use Rattle.fws_pf_put.proofs.BlockSets.{same_quotient}
use Rattle.fws_pf_put.proofs.Sizes.{multiple_fits}

-- a block in parts of a size
pub record AreParts (block : Prefix) (len size count : ℕ) : Type 0 where
  pub sound : IsBlock block
  pub longer : block.len ≤ len
  pub low : len ≤ 32
  pub size_is : size ≡ 2 ^ (32 - len)
  pub count_is : count ≡ 2 ^ (len - block.len)

module _ (block : Prefix) (len size count : ℕ) (are : AreParts block len size count) where
  whole : count * size ≡ 2 ^ (32 - block.len)
  whole =
      let longer = are.longer in
      let low = are.low in
      let both : (len - block.len) + (32 - len) ≡ 32 - block.len = omega arith in
      ap (λ n. n * size) are.count_is ∙ ap (λ n. 2 ^ (len - block.len) * n) are.size_is ∙ sym (pow-add 2 (len - block.len) (32 - len)) ∙ ap (λ n. 2 ^ n) both

  within : (k : ℕ) → k < count → k * size + size ≤ 2 ^ (32 - block.len)
  within k less =
      let more : size * suc k ≤ size * count = mul-le-mul_left size (omega arith) in
      let all = whole in
      omega (arith, more, all)

  pub part_low : (k : ℕ) → k < count → block.addr + k * size < 2 ^ 32
  part_low k less =
      let pos : 0 < size = subst (λ n. 0 < n) (sym are.size_is) (pow_pos (32 - len)) in
      let inside = within k less in
      let short = are.sound.short in
      let both : block.len + (32 - block.len) ≡ 32 = omega arith in
      let all : 2 ^ block.len * 2 ^ (32 - block.len) ≡ 2 ^ 32 = sym (pow-add 2 block.len (32 - block.len)) ∙ ap (λ n. 2 ^ n) both in
      let P : ℕ → Type 0 = λ t. block.addr + k * size < t in
      let Q : ℕ → Type 0 = λ t. block.addr < t in
      subst P all (multiple_fits (2 ^ block.len) (2 ^ (32 - block.len)) block.addr (k * size) (subst Q (sym all) are.sound.fits) are.sound.cleared (omega (arith, inside, pos)))

  part_clear : (k : ℕ) → (block.addr + k * size) % size ≡ 0
  part_clear k =
      let m = block.addr / 2 ^ (32 - block.len) in
      let clear = are.sound.cleared in
      let split = div-add-mod' block.addr (2 ^ (32 - block.len)) in
      let addr : block.addr ≡ m * 2 ^ (32 - block.len) = omega (arith, clear, split) in
      let parts : block.addr ≡ m * (count * size) = addr ∙ ap (λ n. m * n) (sym whole) in
      let joined : block.addr + k * size ≡ (m * count + k) * size = omega (arith, parts) in
      ap (λ n. n % size) joined ∙ mul-mod_left (m * count + k) size

  pub part_sound : (k : ℕ) → k < count → IsBlock (record { addr = block.addr + k * size; len = len })
  part_sound k less = record { short = are.low; fits = part_low k less; cleared = ap (λ n. (block.addr + k * size) % n) (sym are.size_is) ∙ part_clear k }

  -- a part has the addresses from its first one on
  part_has : (k v : ℕ) → block.addr + k * size ≤ v → v < block.addr + k * size + size → prefix_has (record { addr = block.addr + k * size; len = len }) v ≡ true
  part_has k v low high =
      let pos : 0 < size = subst (λ n. 0 < n) (sym are.size_is) (pow_pos (32 - len)) in
      ap (λ n. nat_eq ((block.addr + k * size) / n) (v / n)) (sym are.size_is)
      ∙ same_quotient size (block.addr + k * size) v pos (part_clear k)
      ∙ and_from (nat_le (block.addr + k * size) v) (nat_le v (block.addr + k * size + (size - 1))) (le-leb (block.addr + k * size) v low)
      (le-leb v (block.addr + k * size + (size - 1)) (omega (arith, pos, high)))

  -- the parts so far have the addresses up to the next one
  pub record SoFar (more : List Prefix) (k : ℕ) : Type 0 where
    pub are_parts : All (λ (part : Prefix). IsBlock part × (len ≤ part.len)) more
    pub have : (v : ℕ) → block.addr ≤ v → v < block.addr + k * size → some_prefix_has more v ≡ true

  pub none_yet : SoFar [] 0
  none_yet = record { are_parts = λ k d below. absurd (omega (arith, below)); have = λ v low high. absurd (omega (arith, low, high)) }

  either_has : (more : List Prefix) (part : Prefix) (v : ℕ) → some_prefix_has more v ≡ true → some_prefix_has (more ++ part ∷ []) v ≡ true
  either_has [] part v h = absurd (false≢true h)
  either_has (p ∷ more) part v h = by_first (prefix_has p v) h (either_has more part v) where
    by_first : (b : Bool) → (b || some_prefix_has more v) ≡ true → (some_prefix_has more v ≡ true → some_prefix_has (more ++ part ∷ []) v ≡ true) → (b || some_prefix_has (more ++ part ∷ []) v) ≡ true
    by_first true h later = refl
    by_first false h later = later h

  last_has : (more : List Prefix) (part : Prefix) (v : ℕ) → prefix_has part v ≡ true → some_prefix_has (more ++ part ∷ []) v ≡ true
  last_has [] part v h = ap (λ b. b || false) h
  last_has (p ∷ more) part v h = by_first (prefix_has p v) (last_has more part v h) where
    by_first : (b : Bool) → some_prefix_has (more ++ part ∷ []) v ≡ true → (b || some_prefix_has (more ++ part ∷ []) v) ≡ true
    by_first true h = refl
    by_first false h = h

  more_have : (more : List Prefix) (k v : ℕ) → SoFar more k → block.addr ≤ v → v < block.addr + k * size + size → (b : Bool) → nat_lt v (block.addr + k * size) ≡ b
      → some_prefix_has (more ++ record { addr = block.addr + k * size; len = len } ∷ []) v ≡ true
  more_have more k v so low high true is =
      either_has more (record { addr = block.addr + k * size; len = len }) v (so.have v low (ltb-true v (block.addr + k * size) is))
  more_have more k v so low high false is =
      last_has more (record { addr = block.addr + k * size; len = len }) v (part_has k v (ltb-false v (block.addr + k * size) is) high)

  pub one_more : (more : List Prefix) (k : ℕ) → k < count → SoFar more k → SoFar (more ++ record { addr = block.addr + k * size; len = len } ∷ []) (k + 1)
  one_more more k less so = record {
    are_parts = All-push (λ (part : Prefix). IsBlock part × (len ≤ part.len)) more (record { addr = block.addr + k * size; len = len }) so.are_parts (part_sound k less, le_refl len);
    have = λ v low high. more_have more k v so low (omega (arith, high)) (nat_lt v (block.addr + k * size)) refl;
  }

  -- all parts have the addresses of the block
  pub all_have : (more : List Prefix) → SoFar more count → (v : ℕ) → prefix_has block v ≡ true → some_prefix_has more v ≡ true
  all_have more so v h =
      let ranges = and_parts (nat_le block.addr v) (nat_le v (block.addr + (2 ^ (32 - block.len) - 1)))
      (sym (same_quotient (2 ^ (32 - block.len)) block.addr v (pow_pos (32 - block.len)) are.sound.cleared) ∙ h) in
      let low : block.addr ≤ v = leb-true block.addr v ranges.0 in
      let high : v ≤ block.addr + (2 ^ (32 - block.len) - 1) = leb-true v (block.addr + (2 ^ (32 - block.len) - 1)) ranges.1 in
      let pos = pow_pos (32 - block.len) in
      let all = whole in
      so.have v low (omega (arith, high, pos, all))
