-- The prefixes of a range make up the range.
use Rattle.std.proofs.Common.{◌≡◌, ◌≢◌, ℕ, zero, suc, ◌+◌, ◌-◌, ◌*◌, ◌%◌, ◌^◌, ◌<◌, ◌≤◌, Bool, true, false, cond, ◌&&◌, ◌||◌, not, nat_eq, nat_le, nat_lt, Some, None, option_map, option_and_then, List, [], ◌∷◌, ◌++◌, map, decimal, refl, ap, ap₂, sym, ◌∙◌, append_assoc, arith, subst, inl, inr}
use Rattle.std.proofs.Math.Nat.{mul-mod_left, one-le-pow, pow-suc}
use Rattle.std.proofs.lemmas.Bool.{and_from, and_parts, leb-true, ltb-true, le-leb, lt-ltb, eqb-true, eq-eqb, not-true, or_cases, cond_both}
use Rattle.std.proofs.lemmas.Bool.Decides.{nat_tests}
use Rattle.std.proofs.lemmas.List.{map-append}
use Rattle.std.proofs.lemmas.List.Folds.{list_all-append, list_any-append}
use Rattle.std.specs.List.{flat_map, list_all}
use Rattle.std.specs.Option.{option_map_or}
use Rattle.fws_num.specs.declared.prefix.Prefix.{Prefix}
use Rattle.fws_num.specs.Numbers.{dotted, first_bits, lacks, prefix_len_of, prefix_of, quad_of, split_once}
use Rattle.fws_num.specs.Written.{has_slashes}
use Rattle.fws_iv.specs.declared.iv.Iv.{Iv}
use Rattle.fws_iv.specs.Ivs.{has, in_part, with_ranges}
use Rattle.fws_net.specs.Faces.{block}
use Rattle.fws_net.specs.SiteSpelling.{net_word}
use Rattle.fws_ipfw.specs.Values.{masked_network, network_of, with_network, with_networks}
use Rattle.fws_ipfw_print.specs.PrintedText.{all_bits, blocks_from, blocks_of, is_apart, is_within, prefix_from, prefix_word}
use Rattle.fws_ipfw_print.proofs.Basics.{if_false}
use Rattle.fws_ipfw_print.proofs.Laws.{Laws}
use Rattle.fws_ipfw_print.proofs.MadeSets.{is_ordered}
use Rattle.fws_ipfw_print.proofs.Tame.{address_bytes, address_lacks, is_value_byte, number_bytes, number_lacks, slash_ahead, slashes_behind}

pub split_none : (byte : ℕ) (text : List ℕ) → lacks byte text ≡ true → split_once byte text ≡ None
split_none byte [] h = refl
split_none byte (c ∷ text) h =
    let parts = and_parts (not (nat_eq c byte)) (lacks byte text) h in
    if_false (nat_eq c byte) (Some ([], text)) (option_map (λ parts. (c ∷ parts.0, parts.1)) (split_once byte text)) (not-true (nat_eq c byte) parts.0)
    ∙ ap (option_map (λ parts. (c ∷ parts.0, parts.1))) (split_none byte text parts.1)

-- Prefixes

-- an address of 32 bits, of which those past the length are 0
abbrev pub is_good : Prefix → Bool
is_good net = nat_lt net.addr (2 ^ 32) && nat_le net.len 32 && nat_eq (net.addr % 2 ^ (32 - net.len)) 0

abbrev pub block_range : Prefix → Iv
block_range net = block net.len net.addr

record IsGood (net : Prefix) : Type 0 where
  within : net.addr < 2 ^ 32
  short : net.len ≤ 32
  clear : net.addr % 2 ^ (32 - net.len) ≡ 0

good : (net : Prefix) → is_good net ≡ true → IsGood net
good net h =
    let last = and_parts (nat_lt net.addr (2 ^ 32) && nat_le net.len 32) (nat_eq (net.addr % 2 ^ (32 - net.len)) 0) h in
    let first = and_parts (nat_lt net.addr (2 ^ 32)) (nat_le net.len 32) last.0 in
    record { within = ltb-true net.addr (2 ^ 32) first.0; short = leb-true net.len 32 first.1; clear = eqb-true (net.addr % 2 ^ (32 - net.len)) 0 last.1 }

first_bits_kept : (a n : ℕ) → a % 2 ^ (32 - n) ≡ 0 → first_bits n a ≡ a
unfolding first_bits
first_bits_kept a n h = omega arith

-- the pieces of a range

power_some : (n : ℕ) → 1 ≤ 2 ^ n
power_some n = one-le-pow n 2 (omega arith)

piece_range : (n a : ℕ) → n ≤ 32 → a % 2 ^ n ≡ 0 → block_range (prefix_from n a) ≡ record { lo = a; hi = a + (2 ^ n - 1) }
piece_range n a short clear =
    let back : 32 - (32 - n) ≡ n = omega arith in
    let low : a - a % 2 ^ n ≡ a = omega arith in
    ap (λ (k : ℕ). let x : Iv = record { lo = a - a % 2 ^ k; hi = (a - a % 2 ^ k) + (2 ^ k - 1) } in x) back
    ∙ ap (λ (lo : ℕ). let x : Iv = record { lo = lo; hi = lo + (2 ^ n - 1) } in x) low

piece_good : (n a : ℕ) → n ≤ 32 → a % 2 ^ n ≡ 0 → a + 2 ^ n ≤ 2 ^ 32 → is_good (prefix_from n a) ≡ true
piece_good n a short clear fits =
    let back : 32 - (32 - n) ≡ n = omega arith in
    let some = power_some n in
    let low : a < 2 ^ 32 = omega arith in
    let len : 32 - n ≤ 32 = omega arith in
    and_from (nat_lt a (2 ^ 32) && nat_le (32 - n) 32) (nat_eq (a % 2 ^ (32 - (32 - n))) 0)
    (and_from (nat_lt a (2 ^ 32)) (nat_le (32 - n) 32) (lt-ltb a (2 ^ 32) low) (le-leb (32 - n) 32 len))
    (ap (λ k. nat_eq (a % 2 ^ k) 0) back ∙ eq-eqb (a % 2 ^ n) 0 clear)

-- a multiple of 2 ^ n
clear_multiple : (n a q : ℕ) → a ≡ q * 2 ^ n → a % 2 ^ n ≡ 0
clear_multiple n a q is = ap (λ k. k % 2 ^ n) is ∙ mul-mod_left q (2 ^ n)

lower_half : (a q m : ℕ) → a ≡ q * (m * 2) → a ≡ (q * 2) * m
lower_half a q m is = omega arith

upper_half : (a q m : ℕ) → a ≡ q * (m * 2) → a + m ≡ (q * 2 + 1) * m
upper_half a q m is = omega arith

halves : (n a q : ℕ) → a ≡ q * 2 ^ suc n → (a ≡ (q * 2) * 2 ^ n) × (a + 2 ^ n ≡ (q * 2 + 1) * 2 ^ n)
halves n a q is = (let split = is ∙ ap (λ k. q * k) (pow-suc 2 n) in (lower_half a q (2 ^ n) split, upper_half a q (2 ^ n) split))

twice : (n : ℕ) → 2 ^ suc n ≡ 2 ^ n + 2 ^ n
twice n = pow-suc 2 n ∙ double (2 ^ n)
  where
    double : (m : ℕ) → m * 2 ≡ m + m
    double m = omega arith

blocks_good : (n a q : ℕ) (iv : Iv) → n ≤ 32 → a ≡ q * 2 ^ n → a + 2 ^ n ≤ 2 ^ 32 → list_all is_good (blocks_from n a iv) ≡ true
blocks_good zero a q iv short is fits =
    cond_both (is_within zero a iv) (prefix_from zero a ∷ []) [] (λ nets. list_all is_good nets ≡ true)
    (λ e. and_from (is_good (prefix_from zero a)) true (piece_good zero a short (clear_multiple zero a q is) fits) refl) (λ e. refl)
blocks_good (suc n) a q iv short is fits =
    let lower = blocks_from n a iv in
    let upper = blocks_from n (a + 2 ^ n) iv in
    let half = halves n a q is in
    let two = twice n in
    let less : n ≤ 32 = omega arith in
    let first : a + 2 ^ n ≤ 2 ^ 32 = omega arith in
    let second : a + 2 ^ n + 2 ^ n ≤ 2 ^ 32 = omega arith in
    cond_both (is_within (suc n) a iv) (prefix_from (suc n) a ∷ []) (cond (is_apart (suc n) a iv) [] (lower ++ upper)) (λ nets. list_all is_good nets ≡ true)
    (λ e. and_from (is_good (prefix_from (suc n) a)) true (piece_good (suc n) a short (clear_multiple (suc n) a q is) fits) refl)
    (λ e. cond_both (is_apart (suc n) a iv) [] (lower ++ upper) (λ nets. list_all is_good nets ≡ true) (λ e. refl)
    (λ e.
    list_all-append is_good lower upper
    ∙ and_from (list_all is_good lower) (list_all is_good upper) (blocks_good n a (q * 2) iv less half.0 first) (blocks_good n (a + 2 ^ n) (q * 2 + 1) iv less half.1 second)))

-- the addresses of a piece
abbrev within_piece : ℕ → ℕ → ℕ → Bool
within_piece m a v = nat_le a v && nat_lt v (a + m)

whole_piece : (lo hi a m v : ℕ) → 1 ≤ m → lo ≤ a → a + m ≤ hi + 1 → ((nat_le a v && nat_le v (a + (m - 1))) || false) ≡ ((nat_le a v && nat_lt v (a + m)) && (nat_le lo v && nat_le v hi))
whole_piece lo hi a m v some low high = grind (arith, nat_tests)

behind_piece : (lo hi a m v : ℕ) → hi < a → false ≡ ((nat_le a v && nat_lt v (a + m)) && (nat_le lo v && nat_le v hi))
behind_piece lo hi a m v low = grind (arith, nat_tests)

ahead_piece : (lo hi a m v : ℕ) → a + m ≤ lo → false ≡ ((nat_le a v && nat_lt v (a + m)) && (nat_le lo v && nat_le v hi))
ahead_piece lo hi a m v high = grind (arith, nat_tests)

outside_one : (lo hi a v : ℕ) → (nat_le lo a && nat_le (a + 1) (hi + 1)) ≡ false → false ≡ ((nat_le a v && nat_lt v (a + 1)) && (nat_le lo v && nat_le v hi))
outside_one lo hi a v off = grind (arith, nat_tests)

two_pieces : (a m v : ℕ) (p : Bool) → (((nat_le a v && nat_lt v (a + m)) && p) || ((nat_le (a + m) v && nat_lt v (a + m + m)) && p)) ≡ ((nat_le a v && nat_lt v (a + (m + m))) && p)
two_pieces a m v true = grind (arith, nat_tests)
two_pieces a m v false = grind (arith, nat_tests)

piece_members : (n a q : ℕ) (iv : Iv) → n ≤ 32 → a ≡ q * 2 ^ n → is_within n a iv ≡ true → (v : ℕ) → has (map block_range (prefix_from n a ∷ [])) v ≡ (within_piece (2 ^ n) a v && in_part iv v)
piece_members n a q iv short is h v =
    let parts = and_parts (nat_le iv.lo a) (nat_le (a + 2 ^ n) (iv.hi + 1)) h in
    ap (λ x. has (x ∷ []) v) (piece_range n a short (clear_multiple n a q is))
    ∙ whole_piece iv.lo iv.hi a (2 ^ n) v (power_some n) (leb-true iv.lo a parts.0) (leb-true (a + 2 ^ n) (iv.hi + 1) parts.1)

apart_members : (m a : ℕ) (iv : Iv) → (nat_lt iv.hi a || nat_le (a + m) iv.lo) ≡ true → (v : ℕ) → false ≡ (within_piece m a v && in_part iv v)
apart_members m a iv h v =
    elim (or_cases (nat_lt iv.hi a) (nat_le (a + m) iv.lo) h) [
      | inl e ↦ behind_piece iv.lo iv.hi a m v (ltb-true iv.hi a e)
      | inr e ↦ ahead_piece iv.lo iv.hi a m v (leb-true (a + m) iv.lo e)
    ]

blocks_members : (n a q : ℕ) (iv : Iv) → n ≤ 32 → a ≡ q * 2 ^ n → (v : ℕ) → has (map block_range (blocks_from n a iv)) v ≡ (within_piece (2 ^ n) a v && in_part iv v)
blocks_members zero a q iv short is v =
    cond_both (is_within zero a iv) (prefix_from zero a ∷ []) [] (λ nets. has (map block_range nets) v ≡ (within_piece (2 ^ zero) a v && in_part iv v))
    (λ e. piece_members zero a q iv short is e v) (λ e. outside_one iv.lo iv.hi a v e)
blocks_members (suc n) a q iv short is v =
    let lower = blocks_from n a iv in
    let upper = blocks_from n (a + 2 ^ n) iv in
    let half = halves n a q is in
    let less : n ≤ 32 = omega arith in
    cond_both (is_within (suc n) a iv) (prefix_from (suc n) a ∷ []) (cond (is_apart (suc n) a iv) [] (lower ++ upper)) (λ nets. has (map block_range nets) v ≡ (within_piece (2 ^ suc n) a v && in_part iv v))
    (λ e. piece_members (suc n) a q iv short is e v)
    (λ e. cond_both (is_apart (suc n) a iv) [] (lower ++ upper) (λ nets. has (map block_range nets) v ≡ (within_piece (2 ^ suc n) a v && in_part iv v)) (λ e. apart_members (2 ^ suc n) a iv e v)
    (λ e.
    ap (λ ranges. has ranges v) (map-append block_range lower upper)
    ∙ list_any-append (λ x. in_part x v) (map block_range lower) (map block_range upper)
    ∙ ap₂ (λ x y. x || y) (blocks_members n a (q * 2) iv less half.0 v) (blocks_members n (a + 2 ^ n) (q * 2 + 1) iv less half.1 v)
    ∙ two_pieces a (2 ^ n) v (in_part iv v)
    ∙ ap (λ m. within_piece m a v && in_part iv v) (sym (twice n))))

none_of : (m : ℕ) → 0 ≡ 0 * m
none_of m = omega arith

bits_known : all_bits ≡ 32
unfolding all_bits
bits_known = refl

-- a range of addresses
abbrev pub is_address_range : Iv → Bool
is_address_range iv = nat_le iv.hi (2 ^ 32 - 1)

whole_space : (lo hi m v : ℕ) → hi < m → ((nat_le 0 v && nat_lt v (0 + m)) && (nat_le lo v && nat_le v hi)) ≡ (nat_le lo v && nat_le v hi)
whole_space lo hi m v h = grind (arith, nat_tests)

pub range_blocks : (iv : Iv) → is_address_range iv ≡ true → (v : ℕ) → has (map block_range (blocks_of iv)) v ≡ in_part iv v
range_blocks iv h v =
    let high : iv.hi ≤ 2 ^ 32 - 1 = leb-true iv.hi (2 ^ 32 - 1) h in
    let below : iv.hi < 2 ^ 32 = omega arith in
    let within : iv.hi < 2 ^ all_bits = subst (λ (k : ℕ). iv.hi < 2 ^ k) (sym bits_known) below in
    blocks_members all_bits 0 0 iv (omega (arith, bits_known)) (none_of (2 ^ all_bits)) v ∙ whole_space iv.lo iv.hi (2 ^ all_bits) v within

set_good : (set : List Iv) → list_all is_good (flat_map blocks_of set) ≡ true
set_good [] = refl
set_good (iv ∷ set) =
    let few : all_bits ≤ 32 = subst (λ (k : ℕ). k ≤ 32) (sym bits_known) (omega arith) in
    let fits : 0 + 2 ^ all_bits ≤ 2 ^ 32 = subst (λ (k : ℕ). 0 + 2 ^ k ≤ 2 ^ 32) (sym bits_known) (omega arith) in
    list_all-append is_good (blocks_of iv) (flat_map blocks_of set)
    ∙ and_from (list_all is_good (blocks_of iv)) (list_all is_good (flat_map blocks_of set)) (blocks_good all_bits 0 0 iv few (none_of (2 ^ all_bits)) fits) (set_good set)

pub set_blocks_good : (set : List Iv) → list_all is_good (flat_map blocks_of set) ≡ true
set_blocks_good set = set_good set

pub blocks_ordered : (nets : List Prefix) → list_all is_ordered (map block_range nets) ≡ true
blocks_ordered [] = refl
blocks_ordered (net ∷ nets) =
    let lo = net.addr - net.addr % 2 ^ (32 - net.len) in
    let order : lo ≤ lo + (2 ^ (32 - net.len) - 1) = omega arith in
    and_from (is_ordered (block_range net)) (list_all is_ordered (map block_range nets)) (le-leb lo (lo + (2 ^ (32 - net.len) - 1)) order) (blocks_ordered nets)

-- A prefix is read as it is

module _ (laws : Laws) where
  whole_read : (a : ℕ) → a < 2 ^ 32 → prefix_of (dotted a) ≡ Some (record { addr = a; len = 32 })
  unfolding prefix_of
  whole_read a h =
      ap (λ o. option_map_or (λ parts. option_and_then (λ a. option_map (λ n. (let p : Prefix = record { addr = first_bits n a; len = n } in p)) (prefix_len_of parts.1)) (quad_of parts.0)) o (option_map (λ a. (let p : Prefix = record { addr = a; len = 32 } in p)) (quad_of (dotted a))))
      (split_none 47 (dotted a) (address_lacks laws 47 a refl))
      ∙ ap (option_map (λ a. (let p : Prefix = record { addr = a; len = 32 } in p))) (laws.quads.0 a h)

  pub prefix_read : (net : Prefix) → is_good net ≡ true → network_of (prefix_word net) ≡ Some net
  prefix_read net h =
      let is = good net h in
      cond_both (nat_eq net.len 32) (dotted net.addr) (net_word net.addr net.len) (λ text. network_of text ≡ Some net)
      (λ e.
      ap (λ o. option_map_or Some o (masked_network (dotted net.addr))) (whole_read net.addr is.within)
      ∙ ap (λ (n : ℕ). let p : Prefix = record { addr = net.addr; len = n } in Some p) (sym (eqb-true net.len 32 e)))
      (λ e.
      ap (λ o. option_map_or Some o (masked_network (net_word net.addr net.len))) (laws.prefixes net.addr net.len is.within is.short)
      ∙ ap (λ (a : ℕ). let p : Prefix = record { addr = a; len = net.len } in Some p) (first_bits_kept net.addr net.len is.clear))

  pub prefixes_read : (set : List Iv) (nets : List Prefix) → list_all is_good nets ≡ true → with_networks set (map prefix_word nets) ≡ Some (with_ranges set (map block_range nets))
  prefixes_read set [] h = refl
  prefixes_read set (net ∷ nets) h =
      let parts = and_parts (is_good net) (list_all is_good nets) h in
      ap (option_and_then (λ n. with_networks (with_network n set) (map prefix_word nets))) (prefix_read net parts.0) ∙ prefixes_read (with_network net set) nets parts.1

  -- its word

  pub prefix_some : (net : Prefix) → prefix_word net ≢ []
  prefix_some net =
      cond_both (nat_eq net.len 32) (dotted net.addr) (net_word net.addr net.len) (λ text. text ≢ []) (λ e. (laws.dotted_bytes net.addr).1)
      (λ e. front (dotted net.addr) (47 ∷ decimal net.len) (laws.dotted_bytes net.addr).1)
    where
      front : (text rest : List ℕ) → text ≢ [] → text ++ rest ≢ []
      front [] rest some = absurd (some refl)
      front (c ∷ text) rest some = λ e. absurd cc

  pub prefix_bytes : (net : Prefix) → list_all is_value_byte (prefix_word net) ≡ true
  prefix_bytes net =
      cond_both (nat_eq net.len 32) (dotted net.addr) (net_word net.addr net.len) (λ text. list_all is_value_byte text ≡ true) (λ e. address_bytes laws net.addr)
      (λ e.
      list_all-append is_value_byte (dotted net.addr) (47 ∷ decimal net.len)
      ∙ and_from (list_all is_value_byte (dotted net.addr)) (list_all is_value_byte (47 ∷ decimal net.len)) (address_bytes laws net.addr) (number_bytes laws net.len))

  pub prefix_slashes : (net : Prefix) (rest : List ℕ) → has_slashes (prefix_word net ++ rest) ≡ has_slashes rest
  prefix_slashes net rest =
      let lack = address_lacks laws 47 net.addr refl in
      cond_both (nat_eq net.len 32) (dotted net.addr) (net_word net.addr net.len) (λ text. has_slashes (text ++ rest) ≡ has_slashes rest) (λ e. slashes_behind (dotted net.addr) rest lack)
      (λ e.
      ap has_slashes (append_assoc (dotted net.addr) (47 ∷ decimal net.len) rest)
      ∙ slashes_behind (dotted net.addr) (47 ∷ (decimal net.len ++ rest)) lack
      ∙ slash_ahead (decimal net.len) rest (laws.digits net.len).1 (number_lacks laws 47 net.len refl))

  pub prefix_lacks : (net : Prefix) → lacks 44 (prefix_word net) ≡ true
  prefix_lacks net =
      cond_both (nat_eq net.len 32) (dotted net.addr) (net_word net.addr net.len) (λ text. lacks 44 text ≡ true) (λ e. address_lacks laws 44 net.addr refl)
      (λ e.
      list_all-append (λ c. not (nat_eq c 44)) (dotted net.addr) (47 ∷ decimal net.len)
      ∙ and_from (lacks 44 (dotted net.addr)) (lacks 44 (47 ∷ decimal net.len)) (address_lacks laws 44 net.addr refl) (number_lacks laws 44 net.len refl))
