-- Addresses, ports, protocols and flags are read as what they spell.
use Rattle.std.proofs.Common.{◌≡◌, ◌≢◌, ℕ, zero, suc, ◌+◌, ◌-◌, ◌/◌, ◌%◌, ◌^◌, ◌<◌, ◌≤◌, Bool, true, false, cond, ◌&&◌, ◌||◌, not, nat_eq, nat_le, Option, Some, None, is_some, option_and_then, Ok, Err, List, [], ◌∷◌, ◌++◌, codes, decimal, refl, ap, ap₂, sym, ◌∙◌, append-nil, inl, inr, arith}
use Rattle.std.proofs.lemmas.Bool.{and_parts, and_right, cases_Bool, leb-true, le-leb, eqb-true, ne_eqb, cond_both, true≢false}
use Rattle.std.proofs.lemmas.List.Folds.{list_all-append}
use Rattle.std.specs.List.{list_all, range_with_len}
use Rattle.std.specs.Option.{option_map, option_map_or}
use Rattle.fws_num.specs.declared.prefix.Prefix.{Prefix}
use Rattle.fws_num.specs.Numbers.{is_digit, dotted, first_bits, lacks, prefix_of, quad_of}
use Rattle.fws_num.specs.Protocols.{protocol_named, protocol_of}
use Rattle.fws_num.specs.Services.{port_of, service_of}
use Rattle.fws_num.specs.Written.{is_plain}
use Rattle.fws_iv.specs.declared.iv.Iv.{Iv}
use Rattle.fws_net.specs.declared.cause.Cause.TheVariants.{Syntax, LeftOut}
use Rattle.fws_net.specs.Faces.{prefix_parts}
use Rattle.fws_net.specs.Ports.{address_range, addresses_between, in_order}
use Rattle.fws_net.specs.SiteSpelling.{net_word}
use Rattle.fws_ipt.specs.Values.{end_of_range, is_numbered, is_place, is_ports, flag_of, flag_set, flags_of, is_masked, network_of, open_range, place_of, placed_alone, placed_ports, protocol_value, with_length}
use Rattle.fws_print.specs.Words.{protocol_name}
use Rattle.fws_ipt_print.specs.PrintedText.{flags_word, free_bits, free_from, has_free, range_word}
use Rattle.fws_ipt_print.proofs.Basics.{if_true, if_false, text_some, texts_differ}
use Rattle.fws_ipt_print.proofs.Laws.{Laws}
use Rattle.fws_ipt_print.proofs.Marks.{split_none}
use Rattle.fws_ipt_print.proofs.Plain.{address_bytes, address_plain, at_number, is_dotted_byte, joined_plain, lacks_by, number_digits, number_plain}

-- Flags

abbrev are_read : ℕ → Bool
are_read flags = option_map_or (nat_eq flags) (flags_of (flags_word flags)) false

all_flags_read : list_all are_read (range_with_len 0 64) ≡ true
unfolding flags_word flag_of flag_set
all_flags_read = refl

all_flags_plain : list_all (λ flags. is_plain (flags_word flags)) (range_with_len 0 64) ≡ true
unfolding flags_word
all_flags_plain = refl

value_by : (n : ℕ) (o : Option ℕ) → option_map_or (nat_eq n) o false ≡ true → o ≡ Some n
value_by n None h = absurd cc
value_by n (Some m) h = ap (λ k. Some k) (sym (eqb-true n m h))

pub flags_read : (flags : ℕ) → flags ≤ 63 → flags_of (flags_word flags) ≡ Some flags
flags_read flags h = value_by flags (flags_of (flags_word flags)) (at_number are_read 0 64 flags all_flags_read (omega arith) (omega arith))

pub flags_plain : (flags : ℕ) → flags ≤ 63 → is_plain (flags_word flags) ≡ true
flags_plain flags h = at_number (λ flags. is_plain (flags_word flags)) 0 64 flags all_flags_plain (omega arith) (omega arith)

-- Prefixes

pub all_tried : (iv : Iv) → free_from 33 0 iv ≡ free_bits iv
unfolding free_bits
all_tried iv = refl

-- a number of bits that was tried
pub tried : (iv : Iv) (b : ℕ) (o : Option ℕ) → b < 33 → has_free b iv ≡ false → free_from (33 - b) b iv ≡ o → free_from (33 - (b + 1)) (b + 1) iv ≡ o
tried iv b o h off e =
    let left : 33 - b ≡ suc (33 - (b + 1)) = omega arith in
    let next : b + 1 ≡ suc b = omega arith in
    ap (λ k. free_from (33 - (b + 1)) k iv) next
    ∙ sym (ap (λ n. free_from n b iv) left ∙ if_false (has_free b iv) (Some b) (free_from (33 - (b + 1)) (suc b) iv) off) ∙ e

-- what was found of a prefix's free bits
pub free_found : (n b : ℕ) (iv : Iv) (bits : ℕ) → free_from n b iv ≡ Some bits → (has_free bits iv ≡ true) × (bits < b + n)
free_found zero b iv bits e = absurd cc
free_found (suc n) b iv bits e =
    elim (cases_Bool (has_free b iv)) [
      | inl on ↦
          (let same : Some b ≡ Some bits = sym (if_true (has_free b iv) (Some b) (free_from n (suc b) iv) on) ∙ e in
          let is : b ≡ bits = cc in
          (ap (λ k. has_free k iv) (sym is) ∙ on, omega arith))
      | inr off ↦
          (let rest = free_found n (suc b) iv bits (sym (if_false (has_free b iv) (Some b) (free_from n (suc b) iv) off) ∙ e) in
          (rest.0, omega arith))
    ]

-- the free bits that are found are the fewest
pub free_least : (n b : ℕ) (iv : Iv) (k : ℕ) → has_free k iv ≡ true → b ≤ k → k < b + n → (bits : ℕ) × ((free_from n b iv ≡ Some bits) × (bits ≤ k))
free_least zero b iv k h low high = absurd (omega arith)
free_least (suc n) b iv k h low high =
    elim (cases_Bool (has_free b iv)) [
      | inl on ↦ (b, (if_true (has_free b iv) (Some b) (free_from n (suc b) iv) on, low))
      | inr off ↦
          (let other : b ≢ k = λ e. true≢false (sym h ∙ ap (λ m. has_free m iv) (sym e) ∙ off) in
          let rest = free_least n (suc b) iv k h (omega arith) (omega arith) in
          (rest.0, (if_false (has_free b iv) (Some b) (free_from n (suc b) iv) off ∙ rest.1.0, rest.1.1)))
    ]

-- a range that is a prefix of a length, or of a longer one, is found as one that is as long
pub free_enough : (len : ℕ) (iv : Iv) (n : ℕ) → len ≤ n → n ≤ 32 → has_free (32 - n) iv ≡ true → (bits : ℕ) × (free_bits iv ≡ Some bits) × (len ≤ 32 - bits)
unfolding free_bits
free_enough len iv n low high h =
    let k : ℕ = 32 - n in
    let within : k < 0 + 33 = omega arith in
    let from : 0 ≤ k = omega arith in
    let found = free_least 33 0 iv k h from within in
    let fewer : found.0 ≤ k = found.1.1 in
    let enough : len ≤ 32 - found.0 = omega arith in
    (found.0, found.1.0, enough)

-- the prefix of a range behind which bits are free
abbrev pub prefix_at : Iv → ℕ → Prefix
prefix_at iv bits = record { addr = iv.lo; len = 32 - bits }

first_bits_kept : (a n : ℕ) → a % 2 ^ (32 - n) ≡ 0 → first_bits n a ≡ a
unfolding first_bits
first_bits_kept a n h = omega arith

pub prefix_of_range : (iv : Iv) (bits : ℕ) → bits ≤ 32 → has_free bits iv ≡ true → prefix_parts (prefix_at iv bits) ≡ iv ∷ []
prefix_of_range iv bits h free =
    let parts = and_parts (nat_eq (iv.lo % 2 ^ bits) 0) (nat_eq iv.hi (iv.lo + (2 ^ bits - 1))) free in
    let clear : iv.lo % 2 ^ bits ≡ 0 = eqb-true (iv.lo % 2 ^ bits) 0 parts.0 in
    let last : iv.hi ≡ iv.lo + (2 ^ bits - 1) = eqb-true iv.hi (iv.lo + (2 ^ bits - 1)) parts.1 in
    let back : 32 - (32 - bits) ≡ bits = omega arith in
    let low : iv.lo - iv.lo % 2 ^ bits ≡ iv.lo = omega arith in
    let high : iv.lo - iv.lo % 2 ^ bits + (2 ^ bits - 1) ≡ iv.hi = omega arith in
    ap (λ (k : ℕ). let x : Iv = record { lo = iv.lo - iv.lo % 2 ^ k; hi = (iv.lo - iv.lo % 2 ^ k) + (2 ^ k - 1) } in x ∷ []) back
    ∙ ap₂ (λ (lo hi : ℕ). let x : Iv = record { lo = lo; hi = hi } in x ∷ []) low high

none_by : (o : Option ℕ) → ((a : ℕ) → o ≡ Some a → ⊥) → o ≡ None
none_by None h = refl
none_by (Some a) h = absurd (h a refl)

has_dot : (front behind : List ℕ) → lacks 46 (front ++ 46 ∷ behind) ≡ false
has_dot front behind = list_all-append (λ c. not (nat_eq c 46)) front (46 ∷ behind) ∙ and_right (lacks 46 front) (lacks 46 (46 ∷ behind)) refl

module _ (laws : Laws) where
  pub prefix_read : (iv : Iv) (bits : ℕ) → iv.lo < 2 ^ 32 → bits ≤ 32 → has_free bits iv ≡ true → prefix_of (net_word iv.lo (32 - bits)) ≡ Some (prefix_at iv bits)
  prefix_read iv bits low h free =
      let parts = and_parts (nat_eq (iv.lo % 2 ^ bits) 0) (nat_eq iv.hi (iv.lo + (2 ^ bits - 1))) free in
      let back : 32 - (32 - bits) ≡ bits = omega arith in
      let clear : iv.lo % 2 ^ (32 - (32 - bits)) ≡ 0 = ap (λ k. iv.lo % 2 ^ k) back ∙ eqb-true (iv.lo % 2 ^ bits) 0 parts.0 in
      let short : 32 - bits ≤ 32 = omega arith in
      laws.prefixes iv.lo (32 - bits) low short
      ∙ ap (λ (a : ℕ). let net : Prefix = record { addr = a; len = 32 - bits } in Some net) (first_bits_kept iv.lo (32 - bits) clear)

  pub net_plain : (a n : ℕ) → is_plain (net_word a n) ≡ true
  net_plain a n = joined_plain laws 47 (dotted a) (decimal n) refl (address_plain laws a) (number_plain laws n)

  -- Ranges of addresses

  pub ends_read : (iv : Iv) → iv.lo ≤ iv.hi → iv.hi < 2 ^ 32 → address_range (dotted iv.lo ++ 45 ∷ dotted iv.hi) ≡ Some (iv.lo, iv.hi)
  ends_read iv order high =
      let lacking = lacks_by is_dotted_byte 45 refl (dotted iv.lo) (address_bytes laws iv.lo) in
      let low : iv.lo < 2 ^ 32 = omega arith in
      ap (λ o. option_and_then in_order (option_and_then (λ parts. option_and_then (λ lo. option_map_or (λ hi. Some (lo, hi)) (quad_of parts.1) None) (quad_of parts.0)) o))
      (laws.splits 45 (dotted iv.lo) (dotted iv.hi) lacking)
      ∙ ap (λ o. option_and_then in_order (option_and_then (λ lo. option_map_or (λ hi. Some (lo, hi)) (quad_of (dotted iv.hi)) None) o)) (laws.quads.0 iv.lo low)
      ∙ ap (λ o. option_and_then in_order (option_map_or (λ hi. Some (iv.lo, hi)) o None)) (laws.quads.0 iv.hi high)
      ∙ if_true (nat_le iv.lo iv.hi) (Some (iv.lo, iv.hi)) None (le-leb iv.lo iv.hi order)

  -- Ports

  pub port_read : (p : ℕ) → p ≤ 65535 → port_of (decimal p) ≡ Some p
  port_read p h = (let short : p < 2 ^ 64 = omega arith in ap (λ o. option_map_or Some o (service_of (decimal p))) (laws.decimals p 65535 short h))

  pub number_lacks : (byte n : ℕ) → is_digit byte ≡ false → lacks byte (decimal n) ≡ true
  number_lacks byte n h = lacks_by is_digit byte h (decimal n) (number_digits laws n)

  end_read : (empty p : ℕ) → p ≤ 65535 → end_of_range empty (decimal p) ≡ Some p
  end_read empty p h =
      ap (λ b. cond b (Some empty) (port_of (decimal p))) (text_some (decimal p) (laws.digits p).1) ∙ port_read p h

  one_read : (p : ℕ) → p ≤ 65535 → open_range (decimal p) ≡ Some (p, p)
  one_read p h =
      ap (λ o. option_map_or (λ parts. option_and_then (λ lo. option_and_then (λ hi. in_order (lo, hi)) (end_of_range 65535 parts.1)) (end_of_range 0 parts.0)) o (option_map (λ p. (p, p)) (port_of (decimal p))))
      (split_none 58 (decimal p) (number_lacks 58 p refl))
      ∙ ap (option_map (λ p. (p, p))) (port_read p h)

  two_read : (lo hi : ℕ) → lo ≤ hi → hi ≤ 65535 → open_range (decimal lo ++ 58 ∷ decimal hi) ≡ Some (lo, hi)
  two_read lo hi order h =
      let low : lo ≤ 65535 = omega arith in
      let text = decimal lo ++ 58 ∷ decimal hi in
      ap (λ o. option_map_or (λ parts. option_and_then (λ lo. option_and_then (λ hi. in_order (lo, hi)) (end_of_range 65535 parts.1)) (end_of_range 0 parts.0)) o (option_map (λ p. (p, p)) (port_of text)))
      (laws.splits 58 (decimal lo) (decimal hi) (number_lacks 58 lo refl))
      ∙ ap (option_and_then (λ lo. option_and_then (λ hi. in_order (lo, hi)) (end_of_range 65535 (decimal hi)))) (end_read 0 lo low)
      ∙ ap (option_and_then (λ hi. in_order (lo, hi))) (end_read 65535 hi h)
      ∙ if_true (nat_le lo hi) (Some (lo, hi)) None (le-leb lo hi order)

  pub range_read : (iv : Iv) → iv.lo ≤ iv.hi → iv.hi ≤ 65535 → open_range (range_word iv) ≡ Some (iv.lo, iv.hi)
  range_read iv order high =
      let low : iv.lo ≤ 65535 = omega arith in
      cond_both (nat_eq iv.lo iv.hi) (decimal iv.lo) (decimal iv.lo ++ 58 ∷ decimal iv.hi) (λ text. open_range text ≡ Some (iv.lo, iv.hi))
      (λ e. one_read iv.lo low ∙ ap (λ hi. Some (iv.lo, hi)) (eqb-true iv.lo iv.hi e))
      (λ e. two_read iv.lo iv.hi order high)

  pub range_plain : (iv : Iv) → is_plain (range_word iv) ≡ true
  range_plain iv =
      cond_both (nat_eq iv.lo iv.hi) (decimal iv.lo) (decimal iv.lo ++ 58 ∷ decimal iv.hi) (λ text. is_plain text ≡ true)
      (λ e. number_plain laws iv.lo) (λ e. joined_plain laws 58 (decimal iv.lo) (decimal iv.hi) refl (number_plain laws iv.lo) (number_plain laws iv.hi))

  -- Protocols

  pub protocol_read : (n : ℕ) → 1 ≤ n → n ≤ 255 → protocol_value (protocol_name n) ≡ Ok (Some n)
  unfolding protocol_named
  protocol_read n low high =
      cond_both (nat_eq n 1) (codes "icmp") (cond (nat_eq n 6) (codes "tcp") (cond (nat_eq n 17) (codes "udp") (decimal n))) (λ text. protocol_value text ≡ Ok (Some n))
      (λ e. ap (λ k. Ok (Some k)) (sym (eqb-true n 1 e)))
      (λ e1.
      cond_both (nat_eq n 6) (codes "tcp") (cond (nat_eq n 17) (codes "udp") (decimal n)) (λ text. protocol_value text ≡ Ok (Some n))
      (λ e. ap (λ k. Ok (Some k)) (sym (eqb-true n 6 e)))
      (λ e2.
      cond_both (nat_eq n 17) (codes "udp") (decimal n) (λ text. protocol_value text ≡ Ok (Some n))
      (λ e. ap (λ k. Ok (Some k)) (sym (eqb-true n 17 e)))
      (λ e3. numbered n low high)))
    where
      numbered : (n : ℕ) → 1 ≤ n → n ≤ 255 → protocol_value (decimal n) ≡ Ok (Some n)
      numbered n low high =
          let short : n < 2 ^ 64 = omega arith in
          let some : n ≢ 0 = λ e. omega arith in
          ap (λ b. cond b (Ok None) (option_map_or (λ n. cond (nat_eq n 0) (Ok None) (Ok (Some n))) (protocol_of (decimal n)) (Err Syntax)))
          (texts_differ is_digit (decimal n) (codes "all") (number_digits laws n) refl)
          ∙ ap (λ o. option_map_or (λ n. cond (nat_eq n 0) (Ok None) (Ok (Some n))) (option_map_or Some o (protocol_named (decimal n))) (Err Syntax)) (laws.decimals n 255 short high)
          ∙ if_false (nat_eq n 0) (Ok None) (Ok (Some n)) (ne_eqb n 0 some)

  pub protocol_plain : (n : ℕ) → is_plain (protocol_name n) ≡ true
  protocol_plain n =
      cond_both (nat_eq n 1) (codes "icmp") (cond (nat_eq n 6) (codes "tcp") (cond (nat_eq n 17) (codes "udp") (decimal n))) (λ text. is_plain text ≡ true)
      (λ e. refl)
      (λ e.
      cond_both (nat_eq n 6) (codes "tcp") (cond (nat_eq n 17) (codes "udp") (decimal n)) (λ text. is_plain text ≡ true)
      (λ e. refl) (λ e. cond_both (nat_eq n 17) (codes "udp") (decimal n) (λ text. is_plain text ≡ true) (λ e. refl) (λ e. number_plain laws n)))

  -- Ends and networks

  pub place_read : (addr : ℕ) (port : Option ℕ) → addr < 2 ^ 32 → option_map_or (λ port. nat_le port 65535) port true ≡ true
      → place_of (dotted addr ++ option_map_or (λ port. 58 ∷ decimal port) port []) ≡ Ok (addr, port)
  place_read addr None h k =
      let lacking = lacks_by is_dotted_byte 58 refl (dotted addr) (address_bytes laws addr) in
      ap place_of (append-nil (dotted addr))
      ∙ ap (λ o. option_map_or (λ parts. placed_ports parts.0 parts.1) o (placed_alone (dotted addr))) (split_none 58 (dotted addr) lacking)
      ∙ ap (λ o. option_map_or (λ a. Ok (a, None)) o (cond (is_some (addresses_between (dotted addr))) (Err LeftOut) (Err Syntax))) (laws.quads.0 addr h)
  place_read addr (Some port) h k =
      let lacking = lacks_by is_dotted_byte 58 refl (dotted addr) (address_bytes laws addr) in
      ap (λ o. option_map_or (λ parts. placed_ports parts.0 parts.1) o (placed_alone (dotted addr ++ 58 ∷ decimal port))) (laws.splits 58 (dotted addr) (decimal port) lacking)
      ∙ ap (λ o. option_map_or Ok o (cond (is_place (dotted addr) && is_ports (decimal port)) (Err LeftOut) (Err Syntax)))
      (ap (option_and_then (λ a. option_map (λ p. (a, Some p)) (port_of (decimal port)))) (laws.quads.0 addr h) ∙ ap (option_map (λ p. (addr, Some p))) (port_read port (leb-true port 65535 k)))

  pub end_plain : (addr : ℕ) (port : Option ℕ) → is_plain (dotted addr ++ option_map_or (λ port. 58 ∷ decimal port) port []) ≡ true
  end_plain addr None = ap is_plain (append-nil (dotted addr)) ∙ address_plain laws addr
  end_plain addr (Some port) = joined_plain laws 58 (dotted addr) (decimal port) refl (address_plain laws addr) (number_plain laws port)

  -- a number alone is no address
  not_quad : (n : ℕ) → quad_of (decimal n) ≡ None
  not_quad n =
      none_by (quad_of (decimal n)) (λ a e.
      true≢false (sym (lacks_by is_digit 46 refl (decimal n) (number_digits laws n)) ∙ ap (lacks 46) (laws.quads.1 (decimal n) a e).1
      ∙ has_dot (decimal (a / 2 ^ 24) ++ 46 ∷ decimal (a / 2 ^ 16 % 256) ++ 46 ∷ decimal (a / 2 ^ 8 % 256)) (decimal (a % 256))))

  pub network_read : (net : Prefix) → net.addr < 2 ^ 32 → 1 ≤ net.len → net.len ≤ 32 → net.addr % 2 ^ (32 - net.len) ≡ 0 → network_of (net_word net.addr net.len) ≡ Ok net
  network_read net h low high clear =
      let text = net_word net.addr net.len in
      let lacking = lacks_by is_dotted_byte 47 refl (dotted net.addr) (address_bytes laws net.addr) in
      let unmasked : is_masked text ≡ false =
      ap (λ o. option_map_or (λ parts. is_some (quad_of parts.1)) o false) (laws.splits 47 (dotted net.addr) (decimal net.len) lacking) ∙ ap is_some (not_quad net.len) in
      let some : net.len ≢ 0 = λ e. omega arith in
      ap (λ o. option_map_or (with_length text) o (cond (is_numbered text) (Err LeftOut) (Err Syntax)))
      (laws.prefixes net.addr net.len h high ∙ ap (λ (a : ℕ). let n : Prefix = record { addr = a; len = net.len } in Some n) (first_bits_kept net.addr net.len clear))
      ∙ if_false (nat_eq net.len 0 || is_masked text) (Err LeftOut) (Ok net) (or_none (nat_eq net.len 0) (is_masked text) (ne_eqb net.len 0 some) unmasked)
    where
      or_none : (x y : Bool) → x ≡ false → y ≡ false → (x || y) ≡ false
      or_none false false h k = refl
      or_none true y h k = absurd cc
      or_none false true h k = absurd cc
